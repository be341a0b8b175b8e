pub mod Reads
pub mod Texts
pub mod FirstBad
pub mod Parts
pub mod Samples
pub mod Laws
