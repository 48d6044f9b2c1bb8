-- Bytes is what the proofs of the engine use, Steps what those of its decoders do, Answers what those of a bare read do; Tells is the
-- promise, and that both engines tell a caller the same; Same says that no contract leaves a choice.
mod Bytes
pub mod Steps
pub mod Answers
pub mod Tells
pub mod Same
