-- What the contracts of the comparison cite.
pub mod Apart
pub mod Found
