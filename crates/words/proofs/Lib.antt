pub mod Words
pub mod Sheet
pub mod Book
