-- The definitions in order.

-- the order of bytes, and the order of rows
pub mod ByteOrder
-- lists merged and sorted, by any order
pub mod Sorted
-- the definition rows of a file
pub mod Definitions
-- the definitions in order, and the search among them by halving
pub mod InOrder
