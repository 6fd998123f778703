-- The laws and proofs of `turn`, lowest first. The proof of a function is in MODULE/FUNCTION/.

-- what content comes to
pub mod contents
-- the ways through each function
pub mod ways
-- the proof of specs/Turning.antt: turns and what they see, for the crate above
pub mod Turning
-- any two answers that a contract allows are the same
pub mod Unique
