pub mod Same
pub mod Laws
