pub mod Room
pub mod Flags
pub mod ReadBack
pub mod WriteBack
pub mod Claims
