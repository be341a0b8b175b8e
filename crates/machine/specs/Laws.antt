pub mod Taken
pub mod Puts
pub mod Fifo
pub mod Kinds
pub mod Queues
pub mod Arrays
pub mod Reaching
pub mod Rows
