pub mod WholeFile
pub mod Filing
pub mod Bounds
pub mod WellFormedFile
pub mod EachValue
pub mod Refusals
