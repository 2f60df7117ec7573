pub mod Character
pub mod Laws
pub mod Library
