pub mod Files
pub mod Open
pub mod Before
pub mod Refusals
pub mod Laws
