pub mod Machine
pub mod Fields
pub mod Code
pub mod Laws
