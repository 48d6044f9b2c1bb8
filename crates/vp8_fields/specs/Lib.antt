-- What the contracts cite beside the definition.
pub mod Rows
