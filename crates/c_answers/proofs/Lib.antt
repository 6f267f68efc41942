pub mod Claims
pub mod OneValue
