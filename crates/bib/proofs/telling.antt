-- How exported calls tell what they come to.

-- outcomes told in lent numbers, and the contract of every exported call
pub mod Exports
