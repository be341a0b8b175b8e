pub mod Finds
pub mod Laws
