-- Chain, of any engine, Steps, of decoders, Each, Made and Quiet are what callers build their proofs from; Sequence is the promise; Same
-- says that no contract leaves a choice, and Split that a literal may be read in parts.
pub mod Laws
pub mod Stream
pub mod Normal
pub mod Picks
pub mod Over
pub mod Chain
pub mod Steps
pub mod Each
pub mod Made
pub mod Quiet
pub mod Signs
pub mod Literal
pub mod Same
pub mod Sequence
pub mod Split
