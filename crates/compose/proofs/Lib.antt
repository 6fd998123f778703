-- The laws and proofs of `compose`, lowest first. The proof of a function is in FUNCTION/.

-- lists of compositions: their order, and the search in them
pub mod lists
-- the proof of specs/Composition.antt: what the list and its search promise to the crates above
pub mod Composition
-- any two outcomes that a public contract allows are the same
pub mod Unique
