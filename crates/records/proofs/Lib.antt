pub mod Codes
pub mod Ways
pub mod Given
pub mod Claims
