pub mod Arrivals
pub mod Lines
pub mod Repeats
pub mod Laws
