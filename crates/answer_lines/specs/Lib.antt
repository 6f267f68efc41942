pub mod Nearness
pub mod Sums
pub mod Texts
