pub mod OneEntry
pub mod ClientEntries
pub mod WholeLines
pub mod LeftLines
pub mod OrderAppends
pub mod Plays
pub mod PlayEnds
pub mod OrderExamples
