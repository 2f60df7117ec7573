-- Claims is what the words and numerals promise beyond their contracts; the rest are steps to it, each subject's in its folder.
mod Tests
mod Slots
pub mod Told
pub mod Claims
