-- Text under construction.

-- more laws of a part of a text, beside those of `text`
pub mod MoreParts
-- laws of `Lays`, and of the functions of src/stack.rt
pub mod LaysLaws
