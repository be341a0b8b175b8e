pub mod Standing
pub mod Read
pub mod Walks
pub mod Barring
pub mod Rows
pub mod Begins
