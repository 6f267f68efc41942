pub mod Pairs
pub mod Writing
pub mod Reports
pub mod PrivatePairs
pub mod Claims
