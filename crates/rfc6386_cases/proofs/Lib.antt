-- One statement for the cases, one for the frames with every field, one for what the modes read apart; and the wrong parsers shut out.
pub mod Cases
pub mod Fields
pub mod Modes
pub mod Wrong
