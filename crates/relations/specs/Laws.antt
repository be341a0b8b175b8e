pub mod Sync
pub mod Seen
pub mod Filled
pub mod Derive
