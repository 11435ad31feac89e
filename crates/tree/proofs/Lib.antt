pub mod Rows
pub mod Trees
pub mod Walks
pub mod Lists
pub mod Depths
pub mod Orders
pub mod Numbers
pub mod Compares
