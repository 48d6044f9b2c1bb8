-- Demand 3: what past frames leave in a parser, and what they cannot touch.
--   Refusals: the table of refusals, column by column, written from the bytes.
--   Kept: the 1,126 kept numbers, in order.
--   History: which frames cut off the past, and what a frame writes to each kept number.
--   Sound: a record without fault.
--   Answered: the answers of running code, one call after the other.
--   Past: a header's parts that the past may touch.
--   Nested: the coefficient probabilities over calls, in their nested layout.
pub mod Refusals
pub mod Kept
pub mod Sound
pub mod History
pub mod Answered
pub mod Past
pub mod Nested
