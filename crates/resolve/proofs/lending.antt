-- What is lent with a file: rows and month words.

-- the checks of src/lent.rt
pub mod CheckWays
