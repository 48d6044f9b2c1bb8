-- The tables, as a reader must believe them.
pub mod Tables
