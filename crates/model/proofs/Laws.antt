pub mod Middles
pub mod Refusals
pub mod Verdicts
pub mod Scans
pub mod Cycles
