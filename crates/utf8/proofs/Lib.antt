-- What the proofs of several functions use, and what is proved of the grammar besides.
pub mod Grammar
pub mod Exactly
pub mod Claims
