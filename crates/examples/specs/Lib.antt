pub mod Given
pub mod Captured
pub mod Claims
