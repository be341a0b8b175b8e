pub mod Lengths
pub mod Walks
pub mod Again
pub mod Written
pub mod Prefix
pub mod Exactly
