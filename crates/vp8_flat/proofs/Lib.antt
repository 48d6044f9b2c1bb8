-- Laws that several proofs, here and above, cite.
pub mod Runs
pub mod Whole
