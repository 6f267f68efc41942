-- What the proofs of several functions use, and what is proved of the definitions besides.
pub mod Laws
pub mod Lent
pub mod Found
pub mod Order
pub mod Said
pub mod Back
pub mod Claims
