pub mod Nexts
pub mod Refilling
pub mod Shortening
pub mod Turning
