pub mod Claims
pub mod Pieces
pub mod PrivateSteps
pub mod Steps
pub mod Walk
