pub mod Status
pub mod Faults
pub mod Texts
pub mod Printing
pub mod Noted
pub mod Commands
pub mod Files
