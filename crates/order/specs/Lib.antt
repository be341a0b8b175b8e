pub mod Serial
pub mod Steps
pub mod Laws
