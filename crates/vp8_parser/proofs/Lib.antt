-- Laws of sizes, of chunks and of what follows one; and what a look and a call say of one another.
pub mod Partitions
pub mod Opens
pub mod Frames
pub mod Same
pub mod Looks
