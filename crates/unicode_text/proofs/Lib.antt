pub mod Rows
pub mod Encodings
pub mod Standing
pub mod Cuts
pub mod Sums
