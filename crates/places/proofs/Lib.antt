-- Claims is what the places promise beyond the contract of their call; the rest are steps to what is promised of lent bytes.
pub mod Bytes
pub mod Claims
pub mod Turn
