pub mod Flushed
pub mod Several
