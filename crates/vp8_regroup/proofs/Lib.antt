-- The two reads as one: of trees, of the header's stage, of what the functions answer.
pub mod Nine
