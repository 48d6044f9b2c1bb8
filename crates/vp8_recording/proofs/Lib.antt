-- The loop over the listed frames (Feeds), and demand 3 over a recording (Kept).
pub mod Feeds
pub mod Kept
