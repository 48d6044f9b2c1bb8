-- What a reader must believe of the records.
--   Layout: their numbers as flat runs, and where each entry stands.
--   Nested: the coefficient probabilities as nested records, which hold the same entries.
--   Start: their starting values, and the blank header.
--   Outcome: an outcome's number, and the values that it carries.
--   Mode: a mode by its number.
--   Shape: the lengths of a parser's arrays.
--   Length: a frame's length by its header.
--   Place: where a field lies.
pub mod Layout
pub mod Start
pub mod Outcome
pub mod Mode
pub mod Shape
pub mod Nested
pub mod Length
pub mod Place
