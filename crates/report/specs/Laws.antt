pub mod Lists
pub mod Drawings
