pub mod Lengths
pub mod Candidates
