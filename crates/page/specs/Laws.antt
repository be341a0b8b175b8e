pub mod Pages
pub mod Pens
pub mod Numbers
pub mod Members
pub mod Lengths
pub mod Measured
