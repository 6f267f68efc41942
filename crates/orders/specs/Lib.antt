pub mod Runs
pub mod Shares
pub mod Messages
pub mod Happened
pub mod Claims
