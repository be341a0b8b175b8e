pub mod Reads
pub mod Traces
pub mod Laws
