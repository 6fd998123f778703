-- `text::scanner::eat_key` meets its contract. Assumes nothing.
use mathlib.Core.Path.{refl, sym, ◌∙◌}
use native.Mathlib.Omega.{arith}
use Rattle.text.proofs.scanning.AsciiLoops.{key-on, key-stop}
use Rattle.text.proofs.scanning.Skip.{skip-end, ran}
use Rattle.text.specs.Class.{is_key, holds_of}
use Rattle.text.proofs.scanner.eat_key.Goals as goal

pub loop-i-init : goal.loop-i-init
loop-i-init c = refl

pub bounds-s-i : goal.bounds-s-i
bounds-s-i c = omega arith

pub returns-then-b-2 : goal.returns-then-b-2
returns-then-b-2 c =
    let a = c.args in
    ran is_key a.s.now a.at (sym (c.loop-i.invariant ∙ key-stop a.s.now _ c.loop-i-test.true c.if-b-2.true))

pub returns-then-b : goal.returns-then-b
unfolding holds_of
returns-then-b c =
    let a = c.args in
    ran is_key a.s.now a.at (c.eat_rest.ensures.0 ∙ sym c.loop-i.invariant)

pub overflow_add-i : goal.overflow_add-i
overflow_add-i c = omega arith

pub loop-i-smaller : goal.loop-i-smaller
loop-i-smaller c = omega arith

pub loop-i-preserved : goal.loop-i-preserved
loop-i-preserved c =
    let a = c.args in
    c.loop-i.invariant ∙ key-on a.s.now _ c.loop-i-test.true c.if-b.false

pub returns : goal.returns
returns c =
    let a = c.args in
    let turn = c.loop-i in
    ran is_key a.s.now a.at (sym (turn.invariant ∙ skip-end is_key a.s.now _ c.loop-i-test.false))
