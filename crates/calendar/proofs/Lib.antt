-- Claims is what the calendar promises beyond its contracts; the rest are steps to it, each subject's in its folder.
mod Counting
pub mod Each
pub mod Searches
pub mod Table
pub mod Tested
pub mod Claims
