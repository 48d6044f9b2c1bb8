-- What the contracts cite: a text that grows in its buffer, numbers as text, and lines.
pub mod Text
pub mod Digits
pub mod Template
pub mod Lines
pub mod Told
