pub mod Finding
pub mod Refusals
pub mod Laws
