pub mod Leasing
pub mod Lending
