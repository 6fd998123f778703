-- Lists of compositions: their order, and the search in them.

-- the rows of a list by their places, as a search meets them, and the rows of a list that rises
pub mod Rows
-- the ways of `find`, and that on a list that rises it is `lookup`
pub mod Halving
