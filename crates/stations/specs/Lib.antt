pub mod Addresses
pub mod Whereabouts
pub mod Rows
pub mod Events
pub mod Runs
pub mod Claims
pub mod PrivateEvents
