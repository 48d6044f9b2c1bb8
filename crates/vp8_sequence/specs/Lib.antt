-- What the contract cites beside the definition.
pub mod Fold
