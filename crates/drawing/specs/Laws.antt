pub mod Sizes
pub mod Kinds
pub mod Passed
pub mod Here
pub mod Fits
