pub mod Claims
pub mod Completed
pub mod InOrder
