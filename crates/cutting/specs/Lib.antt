pub mod Claims
pub mod Cuts
pub mod Greedy
pub mod PrivateFilling
pub mod PrivateFollowing
