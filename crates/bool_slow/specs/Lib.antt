-- What the slow decoder's contracts say: what its two bytes hold of V (Hand), its contracts (Slow), what a read of the bare decoder asks for
-- and what the definition answers (Asks), and what a caller is told by a list of reads (Told).
pub mod Hand
pub mod Slow
pub mod Asks
pub mod Told
