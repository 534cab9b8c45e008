pub mod Texts
pub mod Formatting
pub mod Opening
pub mod Counting
pub mod Showing
pub mod Shows
pub mod Asked
pub mod Calls
