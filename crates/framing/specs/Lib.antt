pub mod Claims
pub mod Cmdu
pub mod Tlv
