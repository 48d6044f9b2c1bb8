-- Worked cases that a reader can hold against the rules (docs/RULES.md) and RFC 6386, and wrong parsers.
--   Cases: frames and reads of the bare decoder, by number.
--   Fields: frames in which every field of the header is coded.
--   Modes: frames that the two modes read apart.
--   Wrong: five wrong parsers.
pub mod Cases
pub mod Fields
pub mod Modes
pub mod Wrong
