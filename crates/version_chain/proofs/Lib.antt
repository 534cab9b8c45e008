pub mod Linked
pub mod Places
pub mod Slots
pub mod Given
pub mod Written
pub mod Writing
pub mod Whole
pub mod Below
