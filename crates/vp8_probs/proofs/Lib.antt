-- Proofs that callers cite.
pub mod Rule
