-- What a lent call gives: the fields of its answer, and the record afterwards; and the same as one of a sequence of calls.
pub mod View
