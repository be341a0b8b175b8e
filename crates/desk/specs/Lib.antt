pub mod Kept
pub mod Clashes
pub mod Notes
pub mod Laws
pub mod Reading
