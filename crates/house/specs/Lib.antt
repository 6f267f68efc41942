pub mod House
pub mod Story
pub mod Windows
pub mod Claims
