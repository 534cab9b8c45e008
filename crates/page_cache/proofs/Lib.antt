pub mod Framed
pub mod Placed
pub mod Laid
pub mod Changed
pub mod Listed
pub mod Backed
