-- The chains of the index, and its two forms.

-- the first number that passes a test
pub mod First
-- the index over numbered things: one thing more, and a search along a chain
pub mod Chains
-- which bucket a row is in
pub mod RowBuckets
-- the search along a chain of the rows' index: `follow`
pub mod FollowWays
-- the rows' index made from the last row to the first: `link` and `build`
pub mod LinkWays
-- the two forms of the index told apart: `find_name`
pub mod TwoForms
