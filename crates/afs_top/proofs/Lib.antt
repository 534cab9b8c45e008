pub mod Calls
pub mod Played
