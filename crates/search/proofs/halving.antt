-- Search by halving: the order of keys, and the turns of the search.

-- the order of keys, in numbers
pub mod Order
-- one turn of the search, without the bound on turns, and the row that it looks at
pub mod Turns
