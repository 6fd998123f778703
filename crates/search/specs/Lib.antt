pub mod Halving
pub mod Search
