-- The laws and proofs of `bib`. The proof of a function is in FUNCTION/.

-- how exported calls tell what they come to
pub mod telling
-- the proof of specs/Packs.antt: what salvage gives packs without refusal
pub mod Packs
-- the proof of specs/EnoughRoom.antt: a row for each byte, and one more, is always enough
pub mod EnoughRoom
-- any two outcomes that an exported contract allows are the same
pub mod Unique
