pub mod Utf8
pub mod PrivateUtf8
pub mod Claims
