-- What the contracts cite: turns one after another.
pub mod Turns
