-- What the proofs of several functions use, and what is proved of the definitions besides.
pub mod Within
pub mod Spans
pub mod Laws
pub mod Loop
pub mod Runs
pub mod Finding
pub mod Passes
pub mod Table
pub mod Reached
pub mod Local
pub mod Parts
pub mod Values
pub mod Claims
