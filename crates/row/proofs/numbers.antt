-- Rows as numbers, four to a row.

-- rows put into lent numbers, one or many; rows moved on in a file
pub mod Overlay
-- rows and the list of their numbers: from one to the other and back, and by index
pub mod Flat
-- spans that lie in a file: of rows put together, and of rows moved on
pub mod Spans
-- numbers copied over others
pub mod Copied
