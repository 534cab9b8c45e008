pub mod Counting
pub mod Marking
pub mod Replacing
pub mod Taking
