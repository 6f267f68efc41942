pub mod Keys
pub mod Claims
