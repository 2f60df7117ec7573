-- The dating line: its grammar, as trees and how they are spelled, and their meaning; dates as they are written, and answers as text.
-- None of it reads; Steps is for the private functions. Words in quotes are those of the scope and of its requests.
pub mod Act
pub mod Anchor
pub mod Phrase
pub mod Line
pub mod Part
pub mod Writer
pub mod Answer
pub mod Steps
