pub mod Refusals
pub mod Rows
pub mod Roles
pub mod Filters
pub mod Judge
