pub mod Fill
pub mod Rows
pub mod Notes
