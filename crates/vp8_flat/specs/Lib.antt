-- What the contracts cite: the bytes of the records, and the numbers of a header.
pub mod Bytes
pub mod Numbers
