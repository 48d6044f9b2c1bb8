-- What the contracts cite.
pub mod Plays
