-- Laws that the sub-headers' proofs share, and those above cite.
pub mod InPlace
pub mod Same
pub mod Turns
