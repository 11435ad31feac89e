pub mod Table
pub mod States
pub mod Scalars
pub mod Measures
