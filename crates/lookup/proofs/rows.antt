-- Rows by their numbers, and the last definition of a name.

-- row i of numbers that are rows
pub mod RowNumbers
-- the last definition of a name: exactly when a row is found
pub mod LastDefinition
-- the search from the last row to the first: src/plain.rt
pub mod PlainSearch
