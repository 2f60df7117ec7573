pub mod Laws
pub mod Day
