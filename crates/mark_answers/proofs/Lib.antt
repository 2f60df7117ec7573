-- Claims is what the calls for a transcript promise beyond their contract; the rest are steps to it, in their folder.
pub mod Claims
