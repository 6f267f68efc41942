-- What the proofs of several functions use, and what is proved of the definitions besides.
pub mod Signed
pub mod Joining
pub mod Machine
pub mod Between
pub mod Passing
pub mod Witness
pub mod Merging
pub mod Reading
pub mod Loop
pub mod Values
pub mod At
pub mod Sent
pub mod Claims
