pub mod Chain
pub mod Flush
pub mod Laws
