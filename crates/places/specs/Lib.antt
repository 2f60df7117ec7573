-- Bytes put one behind the other, and numbers in lent bytes.
pub mod Number
pub mod Turn
