-- Laws of the sum, which callers cite too.
pub mod Folds
