pub mod Listing
pub mod Backing
pub mod Framing
pub mod Caching
pub mod Caches
