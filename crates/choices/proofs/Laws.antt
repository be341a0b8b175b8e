pub mod Lists
pub mod Halves
