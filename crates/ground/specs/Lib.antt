pub mod Runs
pub mod Grounds
pub mod Turning
pub mod Making
pub mod Promises
