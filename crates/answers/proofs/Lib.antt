-- Claims is what a run and a page promise beyond the contracts of their calls; the rest are steps to it.
mod Lines
mod Walk
pub mod Claims
