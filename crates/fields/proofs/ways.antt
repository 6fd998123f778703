-- One law for each way through a function, over what its calls answered.

-- a value over a small room, and then over what is lent: `count`, `several`, `write` and `field` of src/field.rt
pub mod FieldWays
