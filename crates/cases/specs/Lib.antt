pub mod EdgeTable
pub mod LiteralCases
pub mod FieldCases
