-- The contracts of `pack` and `unpack`.

-- each way through the functions, with what it answers and leaves
pub mod Answers
-- what is known where the answer is a count, and where it must be one
pub mod KnownAnswers
-- what strict reading gives packs without refusal
pub mod StrictPacks
