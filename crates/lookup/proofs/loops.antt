-- Definitions in the order of their names: what the code that puts them in order does, a step at a time.

-- rows compared by their names
pub mod RowsCompared
-- two lists merged: one turn of the loop, and its end; and the halves of one list
pub mod MergeTurns
-- a list sorted by its halves, in one place
pub mod SortWays
-- the numbers of the definitions gathered: one turn of the loop, and its end
pub mod GatherTurns
-- the definitions gathered and put in order, with the mark
pub mod FillWays
-- the search among the definitions in order: one turn of the loop, and what it ends in
pub mod SearchTurns
