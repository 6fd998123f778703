-- `whole::bound::most_of_text` meets its contract. Assumes nothing.
use native.Mathlib.Omega.{arith}
use Rattle.whole.proofs.counting.AtMost.{spans}
use Rattle.whole.proofs.bound.most_of_text.Goals as goal

pub overflow_sub-result : goal.overflow_sub-result
overflow_sub-result c =
    let a = c.args in
    omega (arith, (spans a.from a.to c.if-to-from.false).0)

pub returns : goal.returns
returns c =
    let a = c.args in
    let s = spans a.from a.to c.if-to-from.false in
    ((omega arith, omega arith), (omega arith, omega (arith, s.1)))
