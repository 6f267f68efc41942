pub mod Kinds
pub mod Writing
pub mod Claims
