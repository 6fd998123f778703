pub mod Salvage
pub mod Demand3
pub mod Inner
pub mod Worked
pub mod Refusals
