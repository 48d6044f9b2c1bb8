-- What the proofs of several functions use, here and above.
pub mod Puts
pub mod Spelling
pub mod Templates
pub mod Lined
pub mod Numerals
