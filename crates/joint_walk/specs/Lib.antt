pub mod Later
pub mod Pairs
pub mod Walks
pub mod Endings
pub mod Calls
pub mod Laws
