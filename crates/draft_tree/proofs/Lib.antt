pub mod Fresh
pub mod Kept
pub mod Letting
pub mod PageFacts
pub mod SlotFacts
pub mod Stepping
pub mod Wanting
pub mod Ways
