pub mod Stops
pub mod Moves
pub mod Marks
pub mod Laws
