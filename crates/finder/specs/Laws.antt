pub mod Plan
pub mod Searching
pub mod Doors
