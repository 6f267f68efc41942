pub mod Sweep
pub mod Claims
