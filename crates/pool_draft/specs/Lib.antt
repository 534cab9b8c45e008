pub mod Forest
pub mod Held
pub mod Keys
pub mod Roots
pub mod Rows
pub mod Seeking
pub mod Sets
pub mod Writes
