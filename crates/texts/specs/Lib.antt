pub mod Texts
pub mod Reading
pub mod Access
pub mod PrivateSteps
pub mod Claims
