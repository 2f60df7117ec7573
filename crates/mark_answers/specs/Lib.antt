-- What is told of a transcript's marks, in blocks, and the run of the program that writes all of them. Words in quotes are the request's.
pub mod Transcript
pub mod Steps
