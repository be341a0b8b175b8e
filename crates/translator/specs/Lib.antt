pub mod Translates
pub mod Laws
