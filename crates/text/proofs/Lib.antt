-- The laws and proofs of `text`, lowest first. The proof of a function is in MODULE/FUNCTION/.

-- laws that every crate may cite
pub mod general
-- UTF-8
pub mod sequences
-- classes, blocks and the scanner
pub mod scanning
-- the proof of specs/Rfc3629.antt: UTF-8 is as RFC 3629 has it
pub mod Rfc3629
-- the proof of specs/Boundaries.antt: the scanner goes from boundary to boundary
pub mod Boundaries
-- the proof of specs/Seeing.antt: what the scanner sees, for the crates above
pub mod Seeing
-- the proof of specs/Shapes.antt: sequences and texts of them, for the crates above
pub mod Shapes
-- any two outcomes that a public contract allows are the same
pub mod Unique
