pub mod Refills
pub mod Turns
pub mod Watching
