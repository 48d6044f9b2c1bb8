-- What the contract of the exported call cites.
pub mod Flags
