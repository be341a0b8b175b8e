pub mod Reads
pub mod Finals
pub mod Edges
pub mod Orders
pub mod Suspects
pub mod Settled
pub mod Scan
