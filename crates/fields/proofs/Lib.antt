-- The laws and proofs of `fields`, lowest first. The proof of a function is in MODULE/FUNCTION/.

-- the ways through each function
pub mod ways
-- the proof of specs/WellFormedFields.antt: what a field is resolved into is well-formed
pub mod WellFormedFields
-- the proof of specs/Refusals.antt: which refusals a call can answer, and their places
pub mod Refusals
-- any two outcomes that a public contract allows are the same
pub mod Unique
