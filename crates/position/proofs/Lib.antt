pub mod Options
pub mod Places
pub mod Neighbours
pub mod Characters
pub mod Orders
pub mod Laws
