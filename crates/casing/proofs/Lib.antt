-- The laws and proofs of `casing`, lowest first. The proof of a function is in FUNCTION/.

-- lists of rows: the search in them, and what they map
pub mod lists
-- the proof of specs/Casing.antt: each table's rule, and what holds of the mappings
pub mod Casing
-- any two outcomes that a public contract allows are the same
pub mod Unique
