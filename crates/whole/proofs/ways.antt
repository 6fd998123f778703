-- One law for each way through a function, over what its calls answered.

-- parts of lent lists that were lent further and came back
pub mod LentParts
-- one value more, counted and written behind the values before it: `write_row` and `write`
pub mod ValueWays
-- the checks of the call, and then all values: `fits`, `indexed`, `whole`
pub mod FileWays
