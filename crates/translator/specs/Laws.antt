pub mod Reading
pub mod Round
pub mod Translating
pub mod Rooms
