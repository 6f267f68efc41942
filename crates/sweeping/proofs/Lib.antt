pub mod Sweeping
pub mod Sound
pub mod Claims
