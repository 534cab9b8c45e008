pub mod Ordered
pub mod Slots
pub mod Decoding
pub mod Held
pub mod Faults
pub mod Examples
pub mod Moving
