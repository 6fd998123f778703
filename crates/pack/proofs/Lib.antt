-- The laws and proofs of `pack`, lowest first. The proof of a function is in MODULE/FUNCTION/.

-- rows as bytes: numbers as digits, seven bytes to a row, what is accepted, and that packing and unpacking are inverse
pub mod bytes
-- the loops of the code: judging rows before anything is written, and writing them
pub mod loops
-- the contracts of `pack` and `unpack`: how an answer comes about, and what it tells
pub mod contracts
-- the proof of specs/RoundTrip.antt: packing and unpacking undo each other, and what strict reading gives can be packed
pub mod RoundTrip
-- the proof of specs/Refusals.antt: which refusals `pack` and `unpack` can answer
pub mod Refusals
-- any two outcomes that a public contract allows are the same
pub mod Unique
