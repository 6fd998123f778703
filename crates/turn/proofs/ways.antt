-- One law for each way through a function, over what its calls answered.

-- chains of tests, as the code joins them and as the definitions do
pub mod TestChains
-- simple bytes in a row: `past_simple` and `words`
pub mod SimpleBytes
-- turns that write text, as the functions of src/turn.rt answer them
pub mod TextTurns
-- the ways through the functions of src/turn.rt
pub mod TextWays
-- `other`, `back_blank` and `back_control`: what they answer, in the form of their proofs
pub mod TextAnswers
-- what `command`, `backslash` and `text_at` answer, in the form of their proofs; and which bytes end a text or a chunk
pub mod CommandAnswers
