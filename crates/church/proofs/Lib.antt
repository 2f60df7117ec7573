-- Claims is what the year sheet and the feasts promise beyond their contracts; the rest are steps to it, each subject's in its folder.
pub mod Claims
mod column
mod Primes
mod Returns
mod period
