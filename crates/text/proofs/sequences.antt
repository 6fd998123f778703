-- The sequences of UTF-8, and the functions of src/utf8.rt.

-- what a walk does at a place, said without the number of octets still to pass
pub mod Walk
-- the RFC's alternatives, which the first octet tells apart, and the sequence that a text begins with
pub mod Alternatives
-- the sequences of each length, one to four, with linear facts about their octets
pub mod Lengths
-- each scalar value has one sequence, and each sequence one scalar value
pub mod ScalarValues
-- texts that are concatenations of sequences, and `validity_of`, which walks over them
pub mod Octets
-- the places of a text that do not cut a sequence
pub mod CutPlaces
-- what the first octet decides about the sequence that a text begins with
pub mod FirstOctet
-- a law for each way through `encode`
pub mod EncodeWays
-- the loop of `validate`, look by look
pub mod ValidateLoop
