pub mod OneField
pub mod WellFormedFields
pub mod Refusals
