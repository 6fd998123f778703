-- One law for each way through a function, over what its calls answered.

-- a chain of tests, as the code joins them and as `mark` does: `is_single_char_func`
pub mod SingleCharTests
-- the list of commands and its rows of bytes: src/meaning.rt
pub mod MeaningRows
-- between which bytes the names of so many octets stand: `span_of`
pub mod SpanRows
-- a mark put onto the last character of an argument: `last_char_combine`
pub mod LastCharacterWays
-- what a command writes: src/execute.rt
pub mod ExecuteWays
-- a chunk's text formatted in place: src/settle.rt
pub mod SettleWays
