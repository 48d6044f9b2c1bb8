-- The record handed over.
--   Block: its bytes, and when bytes are refused. This a reader must believe.
--   Laid: the record that bytes lay out, which is proved to be the one whose bytes they are.
--   Handed: reading, writing and calls over a block.
pub mod Block
pub mod Laid
pub mod Handed
