pub mod Completes
pub mod Laws
