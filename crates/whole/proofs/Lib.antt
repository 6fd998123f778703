-- The laws and proofs of `whole`, lowest first. The proof of a function is in MODULE/FUNCTION/.

-- the values of a file, one behind the other
pub mod values
-- the values of a file counted
pub mod counting
-- the ways through each function
pub mod ways
-- the proof of specs/WellFormedFile.antt: what the values are resolved into is well-formed
pub mod WellFormedFile
-- the proof of specs/EachValue.antt: the answer of each value is the one that `resolve_field` gives for it
pub mod EachValue
-- the proof of specs/Refusals.antt: which refusals the call can answer, and their places
pub mod Refusals
-- any two outcomes that the public contract allows are the same
pub mod Unique
