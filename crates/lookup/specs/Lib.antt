pub mod Fnv
pub mod Names
pub mod Buckets
pub mod Order
pub mod RowIndex
pub mod Lookup
pub mod ShortChains
pub mod Worked
