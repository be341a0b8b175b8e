pub mod Stands
pub mod Scans
pub mod Steps
pub mod Fronts
pub mod Actions
pub mod First
pub mod Keys
