pub mod Views
pub mod Steps
pub mod Stands
pub mod Told
pub mod Entries
pub mod Flush
pub mod Laws
