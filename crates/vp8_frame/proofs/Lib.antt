-- Theorems about the lent call and sequences of it.
pub mod Same
pub mod Lengths
pub mod Answers
pub mod Served
