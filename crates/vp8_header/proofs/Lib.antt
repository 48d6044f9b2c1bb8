-- Laws of the stages.
pub mod Whole
pub mod Built
