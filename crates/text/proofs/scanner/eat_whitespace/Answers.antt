-- `text::scanner::eat_whitespace` meets its contract. Assumes nothing.
use mathlib.Core.Path.{refl, sym, ◌∙◌}
use native.Mathlib.Omega.{arith}
use Rattle.text.proofs.scanning.AsciiLoops.{space-on, tab-on, solid-stop}
use Rattle.text.proofs.scanning.Skip.{skip-end, ran}
use Rattle.text.specs.Class.{is_whitespace, holds_of}
use Rattle.text.proofs.scanner.eat_whitespace.Goals as goal
use Rattle.text.proofs.scanner.eat_whitespace.Goals.{then-b-ne32+else-b+else-not-b, else-b-ne32}

pub loop-i-init : goal.loop-i-init
loop-i-init c = refl

pub bounds-s-i : goal.bounds-s-i
bounds-s-i c = omega arith

pub returns-then-b : goal.returns-then-b
returns-then-b c =
    let a = c.args in
    ran is_whitespace a.s.now a.at (sym (c.loop-i.invariant ∙ solid-stop a.s.now _ c.loop-i-test.true c.if-b.true))

pub returns-then-not-b : goal.returns-then-not-b
unfolding holds_of
returns-then-not-b c =
    let a = c.args in
    ran is_whitespace a.s.now a.at (c.eat_rest.ensures.0 ∙ sym c.loop-i.invariant)

pub overflow_add-i : goal.overflow_add-i
overflow_add-i c = omega arith

pub loop-i-smaller : goal.loop-i-smaller
loop-i-smaller c = omega arith

pub loop-i-preserved : goal.loop-i-preserved
loop-i-preserved c =
    let a = c.args in
    c.loop-i.invariant
    ∙ elim c.if-b-ne32.branch [
      | then-b-ne32+else-b+else-not-b w ↦ tab-on a.s.now c.loop-i.i c.loop-i-test.true w.if-not-b.false
      | else-b-ne32 w ↦ space-on a.s.now c.loop-i.i c.loop-i-test.true w.if-b-ne32.false
    ]

pub returns : goal.returns
returns c =
    let a = c.args in
    let turn = c.loop-i in
    ran is_whitespace a.s.now a.at (sym (turn.invariant ∙ skip-end is_whitespace a.s.now _ c.loop-i-test.false))
