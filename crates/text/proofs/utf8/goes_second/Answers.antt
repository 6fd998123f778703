-- `text::utf8::goes_second` meets its contract. Assumes nothing.
use borrow.Author.Tests.{eq-eqb, ne_eqb}
use Rattle.text.specs.Inner.{seconds, goes_second}
use Rattle.text.proofs.utf8.goes_second.Goals as goal

pub returns-in-224 : goal.returns-in-224
unfolding goes_second seconds
returns-in-224 c = rw (eq-eqb _ 0xE0 c.in-224.is)

pub returns-in-237 : goal.returns-in-237
unfolding goes_second seconds
returns-in-237 c = rw c.in-237.is

pub returns-in-240 : goal.returns-in-240
unfolding goes_second seconds
returns-in-240 c = rw c.in-240.is

pub returns-in-244 : goal.returns-in-244
unfolding goes_second seconds
returns-in-244 c = rw c.in-244.is

pub returns-in_default : goal.returns-in_default
unfolding goes_second seconds
returns-in_default c = rw (
  ne_eqb _ 0xE0 c.in_default.in_default-own.rest.0.0.0.1,
  ne_eqb _ 0xED c.in_default.in_default-own.rest.0.0.1,
  ne_eqb _ 0xF0 c.in_default.in_default-own.rest.0.1,
  ne_eqb _ 0xF4 c.in_default.in_default-own.rest.1,
)
