-- What the contracts cite: the text of an answer, as the printing program and as the dump have it, and a record from the input (Input).
pub mod Refusal
pub mod Printed
pub mod Dumped
pub mod Input
