pub mod Loops
pub mod Laying
pub mod Relations
pub mod Filling
pub mod Rules
pub mod Scan
pub mod Order
