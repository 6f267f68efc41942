pub mod Joining
pub mod Push
pub mod Show
pub mod Made
pub mod PrivateSteps
pub mod Claims
