-- What the decoder's contracts say: what the window holds of V, what a read must do, what the bare decoder answers, what a decoder of any
-- type does (Bare), what a search for a set bool finds; what it is to read a literal in parts; and the tree of an in-place loop, which
-- proofs use.
pub mod Engine
pub mod Window
pub mod Model
pub mod Refusal
pub mod Answer
pub mod Bare
pub mod InPlace
pub mod Quiet
pub mod Split
