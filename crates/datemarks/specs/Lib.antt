-- How much of the input is taken.
pub mod Reading
