pub mod Meaning
pub mod OneByte
pub mod Back
pub mod Claims
