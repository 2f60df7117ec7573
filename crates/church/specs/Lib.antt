-- What a reader must believe: definitions only, each under what it says; words in quotes are those of the scope and of its requests.
pub mod Epact
pub mod Column
pub mod Arithmetic
pub mod Easter
pub mod Letter
pub mod Sheet
pub mod Feast
pub mod Period
