-- Lists of rows: the search in them, and what they map.

-- what a row that is right keeps to, and the rows of a list by their places
pub mod Rows
-- the search of `find`, and what is mapped by the row that it finds
pub mod Halving
-- what is mapped by a list of which every row passes a test: how many characters, and how long
pub mod Images
-- a list that maps no character of an image
pub mod Again
-- ranges of characters that no row has
pub mod Settled
