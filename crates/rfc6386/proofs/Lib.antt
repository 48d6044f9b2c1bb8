-- Theorems about the definition, and the laws that the proofs above cite.
pub mod Runs
pub mod Trees
pub mod Range
pub mod Counts
pub mod Accepts
pub mod Peek
pub mod Holds
pub mod Bounds
pub mod Fills
pub mod Covers
pub mod Reach
pub mod Limits
pub mod Split
