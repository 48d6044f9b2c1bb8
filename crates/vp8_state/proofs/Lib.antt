-- Blocks has what a block is to its record, over Laid (bytes and record, there and back) and NoFault; Handed has the calls over a block,
-- demand 3 of them, and the handing over. The rest are laws that single proofs cite.
pub mod Agree
pub mod Pastes
pub mod Laid
pub mod NoFault
pub mod Blocks
pub mod Stores
pub mod Handed
pub mod Held
