pub mod Children
pub mod Entries
pub mod Trees
pub mod Accesses
pub mod Gathered
pub mod Merge
pub mod States
