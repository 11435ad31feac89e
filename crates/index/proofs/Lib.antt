pub mod Sums
pub mod Walks
pub mod Indexes
pub mod Searches
pub mod LineIndexes
pub mod Laws
