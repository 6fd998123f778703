pub mod Lookup
pub mod Composites
pub mod Halving
pub mod Composition
