pub mod Settled
pub mod Doors
