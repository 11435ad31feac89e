pub mod Laws
pub mod Lines
pub mod Steps
pub mod Closed
