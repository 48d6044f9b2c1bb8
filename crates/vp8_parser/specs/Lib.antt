-- What the contracts cite beside the definition: what each answer of the code stands for in it.
pub mod Answers
