pub mod Lists
pub mod Story
pub mod TwoRuns
pub mod Happened
pub mod Both
pub mod Claims
