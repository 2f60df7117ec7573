mod Bits
pub mod Laws
