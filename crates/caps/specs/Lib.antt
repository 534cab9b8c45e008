pub mod Capability
pub mod Grant
pub mod Tables
