-- Laws of the inner readers' contracts (specs/Says.antt).

-- `Says` and `SaysTurn` of readers that are put together: the answer, and the rows that are left behind
pub mod SaysLaws
-- bounds of the place that a reader without rows answers
pub mod Bounds
-- loops of readers with rows: what one turn tells of the loop
pub mod LoopSays
