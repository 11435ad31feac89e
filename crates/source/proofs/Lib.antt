pub mod Laws
pub mod Strips
