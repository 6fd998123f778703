-- `text::scanner::eat_id` meets its contract. Assumes nothing.
use mathlib.Core.Path.{refl, sym, ◌∙◌}
use native.Mathlib.Omega.{arith}
use Rattle.text.specs.Class.{is_id_continue, holds_of}
use Rattle.text.proofs.scanning.Skip.{skip-end, ran}
use Rattle.text.proofs.scanning.AsciiLoops.{letter-on, id-stop, equals-ends}
use Rattle.text.proofs.scanner.eat_id.Goals as goal

pub loop-i-init : goal.loop-i-init
loop-i-init c = refl

pub bounds-s-i : goal.bounds-s-i
bounds-s-i c = omega arith

pub returns-then-b : goal.returns-then-b
returns-then-b c =
    let a = c.args in
    ran is_id_continue a.s.now a.at (sym (c.loop-i.invariant ∙ id-stop a.s.now _ c.loop-i-test.true 0x3D (omega arith) equals-ends c.if-b.true))

pub returns-then-not-is_letter : goal.returns-then-not-is_letter
unfolding holds_of
returns-then-not-is_letter c =
    let a = c.args in
    ran is_id_continue a.s.now a.at (c.eat_rest.ensures.0 ∙ sym c.loop-i.invariant)

pub overflow_add-i : goal.overflow_add-i
overflow_add-i c = omega arith

pub loop-i-smaller : goal.loop-i-smaller
loop-i-smaller c = omega arith

pub loop-i-preserved : goal.loop-i-preserved
loop-i-preserved c =
    let a = c.args in
    c.loop-i.invariant ∙ letter-on a.s.now _ c.loop-i-test.true (sym c.is_letter.ensures ∙ c.if-not-is_letter.false)

pub returns : goal.returns
returns c =
    let a = c.args in
    let turn = c.loop-i in
    ran is_id_continue a.s.now a.at (sym (turn.invariant ∙ skip-end is_id_continue a.s.now _ c.loop-i-test.false))
