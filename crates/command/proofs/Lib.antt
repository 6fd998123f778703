-- The laws and proofs of `command`, lowest first. The proof of a function is in MODULE/FUNCTION/.

-- text under construction
pub mod stacks
-- one law for each way through each function
pub mod ways
-- any two outcomes that a contract allows are the same
pub mod Unique
-- the proof of specs/LastCharacter.antt: the last character of a text is what the definitions take for it
pub mod LastCharacter
-- the proof of specs/WellFormed.antt: what a command writes is UTF-8, and short
pub mod WellFormed
