-- One run of the program: its input as lines, and their answers as its output, however the input is cut into blocks; and a page of lines, with the day or
-- refusal of each in its place. Words in quotes are the scope's and its requests'.
pub mod Lines
pub mod Block
pub mod Page
pub mod Steps
