pub mod Saves
pub mod Laws
