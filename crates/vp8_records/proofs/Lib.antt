-- Laws that several proofs, here and above, cite.
pub mod Copy
pub mod Parts
pub mod Index
pub mod Arrays
pub mod Typed
