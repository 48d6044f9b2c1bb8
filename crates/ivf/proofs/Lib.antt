-- What the proofs of functions use, and the theorems: what every walk lists (Spaces), that it lists the frames which the file has
-- (Recordings), and that its contract admits one answer (Fills).
pub mod Steps
pub mod Starts
pub mod Turns
pub mod Fills
pub mod Spaces
pub mod Recordings
mod Cases
