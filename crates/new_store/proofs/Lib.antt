pub mod BlockBytes
pub mod PartBlocks
pub mod WriteLaws
pub mod FormatLaws
pub mod NewBlocks
pub mod NewRows
pub mod NewParts
pub mod FoundLaws
