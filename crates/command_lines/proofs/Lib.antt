pub mod Separators
pub mod Signed
