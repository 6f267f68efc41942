pub mod Finding
pub mod Claims
pub mod Private
