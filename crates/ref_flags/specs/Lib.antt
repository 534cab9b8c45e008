pub mod Flagged
pub mod Codes
pub mod Table
