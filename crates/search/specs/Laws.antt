pub mod Walks
pub mod Edges
pub mod Finds
