-- What the example's contract says: the two reads that it regroups.
pub mod Filter
