pub mod Literal
pub mod Rows
pub mod Joining
pub mod Flattening
pub mod WellFormed
pub mod Refusals
pub mod Inner
