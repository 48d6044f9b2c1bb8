-- What the contracts cite: the format, what a walk lists, and how it fills lent lists.
pub mod Ivf
pub mod Walk
pub mod Listed
