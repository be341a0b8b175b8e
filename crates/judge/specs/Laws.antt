pub mod Judging
pub mod Demands
