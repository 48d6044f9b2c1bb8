-- The definition: what a reader must believe. It is written from RFC 6386 and the rules of docs/RULES.md, with the differences of
-- docs/DIFFERENCES.md, and never from our code; every contract above is an equation with it. A call goes in two steps.
--   1. A frame's bytes say something, whatever the parser kept (Frame): the chunk, then, by a tree of reads (Coded, Reads) that the
--      boolean decoder runs (Decoder), the coded fields, the decoder's snapshot and the partition sizes.
--   2. What it says and the kept numbers make the answer: the outcome, the header and the new kept numbers (Call).
-- Peek is what the first ten bytes tell, by the same reading of the chunk. Fills says what it means that the parts of a frame fill it,
-- Covers that macroblocks cover a picture, Reach what position and bits past the end tell of how far the decoder has gone, Holds what holds
-- of every header whatever the bytes, and Split what a literal in parts is. The tables are vp8_probs' Tables; the records with their
-- starting values are vp8_records'.
pub mod Bytes
pub mod Decoder
pub mod Reads
pub mod Runs
pub mod Coded
pub mod Frame
pub mod Call
pub mod Peek
pub mod Fills
pub mod Covers
pub mod Reach
pub mod Split
pub mod Holds
