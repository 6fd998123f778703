-- `resolve::lent::is_text` meets its contract. Assumes nothing.
use Rattle.std.proofs.Common.{arith, ◌∙◌}
use Rattle.resolve.proofs.lending.CheckWays.{text-not, text-inside, text-there, valid-told}
use Rattle.resolve.proofs.lent.is_text.Goals as goal

pub returns-then-to-from : goal.returns-then-to-from
returns-then-to-from c = let a = c.args in text-not a.words.now a.from a.to c.if-to-from.true

pub slice_bounds-validate-count : goal.slice_bounds-validate-count
slice_bounds-validate-count c = let a = c.args in (text-inside a.words.now a.from a.to c.if-to-from.false).0

pub slice_bounds-validate-start : goal.slice_bounds-validate-start
slice_bounds-validate-start c = let a = c.args in omega (arith, text-inside a.words.now a.from a.to c.if-to-from.false)

pub slice_bounds-validate-end : goal.slice_bounds-validate-end
slice_bounds-validate-end c = let a = c.args in omega (arith, text-inside a.words.now a.from a.to c.if-to-from.false)

pub returns : goal.returns
returns c = let a = c.args in rw c.is_ok.ensures.value (valid-told _ ∙ text-there a.words.now a.from a.to c.if-to-from.false _ c.validate.ensures)
