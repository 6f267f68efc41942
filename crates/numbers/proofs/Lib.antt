pub mod Firm
pub mod Answers
pub mod Bytes
pub mod Claims
