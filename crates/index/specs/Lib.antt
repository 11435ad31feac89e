pub mod Measured
pub mod LineIndexes
pub mod Laws
