-- UTF-8, the marks of a transcript, the way from mark to mark, and the places that tell them. No definition says how marks are looked for; Steps is for the
-- private functions and fields.
-- Words in quotes are the request's.
pub mod Utf8
pub mod Mark
pub mod Transcript
pub mod Walk
pub mod Steps
