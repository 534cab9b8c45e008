pub mod Stores
pub mod Orders
pub mod Played
pub mod Forms
pub mod Numbers
