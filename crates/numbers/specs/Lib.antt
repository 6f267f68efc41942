pub mod Numbers
pub mod Bytes
pub mod Parts
pub mod Firmness
pub mod Claims
