pub mod Values
pub mod Kinds
pub mod Reading
pub mod Claims
