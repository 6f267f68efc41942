pub mod Machine
pub mod Story
pub mod Happened
pub mod Both
pub mod Claims
