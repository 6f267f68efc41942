pub mod Wiped
pub mod Freed
pub mod Places
pub mod Sound
pub mod Apart
pub mod InStep
pub mod Shares
pub mod Claims
