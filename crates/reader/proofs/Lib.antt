pub mod Places
pub mod Calls
pub mod Spans
pub mod Indexes
pub mod Single
pub mod History
