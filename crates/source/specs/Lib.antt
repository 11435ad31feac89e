pub mod Runs
pub mod Pieces
pub mod Strips
pub mod Layers
pub mod Keeping
