pub mod Sizes
pub mod Layout
pub mod Formatting
pub mod Fresh
