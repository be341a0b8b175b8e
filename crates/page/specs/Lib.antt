pub mod Page
pub mod Pens
pub mod Lines
pub mod Leads
pub mod Laws
