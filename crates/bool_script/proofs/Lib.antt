-- OneRead is what a read of a decoder says of its text, Turns the loop over them, Known what the kinds of a script say of the whole, One
-- that an engine has one fresh decoder over an area.
mod OneRead
mod Known
mod Turns
pub mod One
