-- What a reader must believe: definitions only, each under what it says; words in quotes are those of the scope and of its requests.
pub mod Range
pub mod Refusal
pub mod Search
pub mod Style
pub mod Year
pub mod Return
pub mod Span
pub mod Day
pub mod Date
pub mod Weekday
pub mod Distance
pub mod Steps
