pub mod SameCalls
pub mod SameTable
pub mod Taken
pub mod Claims
