pub mod Drafts
pub mod Looking
pub mod Marking
pub mod Pages
