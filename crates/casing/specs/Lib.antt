pub mod Mapping
pub mod Uppers
pub mod Lowers
pub mod Casing
