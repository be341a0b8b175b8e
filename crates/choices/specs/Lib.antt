pub mod Outcomes
pub mod Lists
pub mod Halves
pub mod Searches
pub mod Walks
pub mod Laws
