-- One law for each way through a function, over what its calls answered.

-- one row more: `rows::push`
pub mod PushWays
-- a chunk is done: `turnaround` and `put_math`
pub mod MakingWays
-- the functions of src/content.rt that take one turn, and what a turn of text leaves
pub mod StepWays
-- a command and its argument: `begin` and `finish`
pub mod ArgumentWays
-- content, turn by turn: `content`
pub mod ContentWays
-- the content of a command's argument: `argument`
pub mod NestedWays
-- a whole literal: `close`, `begin`, `rest` and `parse`
pub mod LiteralWays
