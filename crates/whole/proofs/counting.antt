-- The values of a file counted.

-- value rows and flags by their numbers: `is_value`, `values` and `flag_at`
pub mod RowKinds
-- one value more, and all of them: `none`, `add`, `add_counted` and `counted_fits`
pub mod CountWays
-- what the elements of a value come to at most: `most_of`
pub mod AtMost
-- what names come to at most: `either`, `most_of_months`, `most_of_names`
pub mod NamesMost
-- values that come to no more than was counted: `bound_row`, `surely_fits`
pub mod Covering
