-- `text::utf8::value_at` meets its contract. Assumes nothing.
use mathlib.Core.Path.{sym}
use native.Mathlib.Omega.{arith}
use Rattle.text.proofs.general.Places.{value-one, value-two, value-three, value-four}
use Rattle.text.proofs.utf8.value_at.Goals as goal

pub returns-then-n-eq1 : goal.returns-then-n-eq1
returns-then-n-eq1 c =
    let a = c.args in
    let wide = c.wide-a in
    rw wide.ensures (sym (value-one a.s.now a.at a.n (omega arith) c.if-n-eq1.true))

pub returns-then-n-eq2 : goal.returns-then-n-eq2
returns-then-n-eq2 c =
    let a = c.args in
    rw (c.wide-a.ensures, c.six-b.ensures) (sym (value-two a.s.now a.at a.n (omega arith) c.if-n-eq2.true))

pub returns-then-n-eq3 : goal.returns-then-n-eq3
returns-then-n-eq3 c =
    let a = c.args in
    rw (c.wide-a.ensures, c.six-b.ensures, c.six-c.ensures) (sym (value-three a.s.now a.at a.n (omega arith) c.if-n-eq3.true))

pub returns : goal.returns
returns c =
    let a = c.args in
    rw (c.wide-a.ensures, c.six-b.ensures, c.six-c.ensures, c.six-d.ensures) (sym (value-four a.s.now a.at a.n (omega arith) (omega arith)))
