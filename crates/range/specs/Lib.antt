pub mod Ranges
pub mod Texts
pub mod Walks
pub mod Laws
