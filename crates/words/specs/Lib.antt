-- The words and numerals of the dating line: how each is spelled, and what bytes tell by that. None of it reads;
-- Steps is for the private functions that do. Words in quotes are the scope's.
pub mod Text
pub mod Told
pub mod Numeral
pub mod Word
pub mod Wrapper
pub mod Steps
