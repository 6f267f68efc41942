pub mod Rows
pub mod Sound
pub mod InStep
pub mod Claims
