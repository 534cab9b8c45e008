pub mod TreeText
pub mod Listing
pub mod FirstFault
pub mod FaultExamples
pub mod Results
pub mod Walk
