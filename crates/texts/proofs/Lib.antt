-- What the proofs of several functions use, and what is proved of the definitions besides.
pub mod Laws
pub mod Whole
pub mod Asked
pub mod Local
pub mod Claims
