pub mod Lists
pub mod Refusals
pub mod Laws
