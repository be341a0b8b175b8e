pub mod Truth
pub mod Sets
pub mod Loops
pub mod Closure
pub mod Pairs
pub mod Lists
pub mod Parts
