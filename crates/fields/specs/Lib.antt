pub mod Fields
pub mod Answers
pub mod Writing
pub mod PrivateSteps
pub mod Claims
