-- The cases compute. They stand above the crates whose definitions they compute, so that a check of one of those does not compute them.

-- the proof of specs/EdgeTable.antt: 01's sixteen lines together
pub mod EdgeTable
-- the proof of specs/LiteralCases.antt: values of one literal
pub mod LiteralCases
-- the proof of specs/FieldCases.antt: fields with their names and month words
pub mod FieldCases
