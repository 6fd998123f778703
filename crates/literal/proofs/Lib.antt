-- The laws and proofs of `literal`, lowest first. The proof of a function is in MODULE/FUNCTION/.

-- the ways through each function
pub mod ways
-- content cuts no character in two, and emits at most two octets for each one read
pub mod characters
-- the proof of specs/Joining.antt: joining as one appends is `flatten` at the end
pub mod Joining
-- the proof of specs/Flattening.antt: chunks flattened, their texts and their rows, for the crates above
pub mod Flattening
-- the proof of specs/WellFormed.antt: what a literal is resolved into is well-formed
pub mod WellFormed
-- the proof of specs/Refusals.antt: which refusals a literal can come to, and their places
pub mod Refusals
