-- What the proofs of several functions use, and what is proved of the definitions besides.
pub mod Laws
pub mod Going
pub mod Lists
pub mod Radios
pub mod Claims
