pub mod Characters
pub mod Walks
pub mod Buffers
pub mod Laws
