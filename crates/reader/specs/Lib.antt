pub mod Spans
pub mod Indexes
pub mod Steps
pub mod Laws
