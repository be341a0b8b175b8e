pub mod Consoles
pub mod Laws
