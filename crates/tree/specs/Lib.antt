pub mod Subtrees
pub mod Walk
pub mod Order
pub mod Trees
pub mod Judged
