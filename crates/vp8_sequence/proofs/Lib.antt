-- The loop's law, and demand 3 of running code.
pub mod Folds
pub mod Kept
