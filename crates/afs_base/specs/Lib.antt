pub mod Causes
pub mod Filled
pub mod FilledBack
pub mod Kind
pub mod Path
