pub mod Searches
pub mod Laying
pub mod Laws
