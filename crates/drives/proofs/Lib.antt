pub mod Tearing
pub mod Moments
pub mod Halves
pub mod Recording
pub mod Composing
