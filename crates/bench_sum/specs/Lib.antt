-- What the contracts of the benchmarks cite.
pub mod Sum
