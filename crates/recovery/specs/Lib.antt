pub mod Aside
pub mod Mended
pub mod Opening
pub mod Rolling
pub mod Known
pub mod Halves
pub mod Reopening
