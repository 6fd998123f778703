-- `text::utf8::validate` meets its contract: a turn of the loop is one look of the walk, or one for each octet of a run of ASCII. Assumes nothing.
use Rattle.std.specs.Prelude.{Ok}
use Prim.Native.Nat.{◌+◌, ◌≤◌}
use mathlib.Core.Path.{refl, sym, ◌∙◌}
use native.Mathlib.Omega.{arith}
use lib.ListN.{length}
use Rattle.text.proofs.sequences.ValidateLoop.{valid-on, valid-one, valid-run, valid-stop}
use Rattle.text.proofs.sequences.Walk.{walk_end}
use Rattle.text.specs.Utf8.{look_valid, validity_of}
use Rattle.text.proofs.utf8.validate.Goals as goal

pub loop-at-init : goal.loop-at-init
unfolding validity_of
loop-at-init c = (omega arith, refl)

pub bounds-s-at : goal.bounds-s-at
bounds-s-at c = omega arith

pub overflow_add-at : goal.overflow_add-at
overflow_add-at c = omega arith

pub loop-at-smaller-then-s-at-lt128 : goal.loop-at-smaller-then-s-at-lt128
loop-at-smaller-then-s-at-lt128 c = omega (arith, c.past_ascii-at.ensures.from)

pub loop-at-preserved-then-s-at-lt128 : goal.loop-at-preserved-then-s-at-lt128
loop-at-preserved-then-s-at-lt128 c =
    let v = c.loop-at in
    let h = c.loop-at-test.true in
    let x = c.past_ascii-at.ensures in
    (omega (arith, x.from, x.to), v.invariant.1 ∙ valid-one (λ n. (Ok tt)) _ v.at h c.if-s-at-lt128.true ∙ valid-run (λ n. (Ok tt)) _ (v.at + 1) (omega arith) x)

pub overflow_add-at-then-is_two : goal.overflow_add-at-then-is_two
overflow_add-at-then-is_two c = omega (arith, (c.is_two.ensures c.if-is_two.true).1)

pub loop-at-smaller-then-is_two : goal.loop-at-smaller-then-is_two
loop-at-smaller-then-is_two c = omega (arith, (c.is_two.ensures c.if-is_two.true).1)

pub loop-at-preserved-then-is_two : goal.loop-at-preserved-then-is_two
loop-at-preserved-then-is_two c =
    let x = c.is_two.ensures c.if-is_two.true in
    (x.1, c.loop-at.invariant.1 ∙ valid-on (λ n. (Ok tt)) _ c.loop-at.at 2 (sym x.0) (λ z. omega arith) x.1)

pub overflow_add-at-then-is_three : goal.overflow_add-at-then-is_three
overflow_add-at-then-is_three c = omega (arith, (c.is_three.ensures c.if-is_three.true).1)

pub loop-at-smaller-then-is_three : goal.loop-at-smaller-then-is_three
loop-at-smaller-then-is_three c = omega (arith, (c.is_three.ensures c.if-is_three.true).1)

pub loop-at-preserved-then-is_three : goal.loop-at-preserved-then-is_three
loop-at-preserved-then-is_three c =
    let x = c.is_three.ensures c.if-is_three.true in
    (x.1, c.loop-at.invariant.1 ∙ valid-on (λ n. (Ok tt)) _ c.loop-at.at 3 (sym x.0) (λ z. omega arith) x.1)

pub returns-then-n-eq0 : goal.returns-then-n-eq0
returns-then-n-eq0 c = sym (c.loop-at.invariant.1 ∙ valid-stop (λ n. (Ok tt)) _ _ _ c.sequence-n.ensures.0 c.if-n-eq0.true c.loop-at-test.true)

pub overflow_add-at-else-is_three : goal.overflow_add-at-else-is_three
overflow_add-at-else-is_three c = omega arith

pub loop-at-smaller : goal.loop-at-smaller
loop-at-smaller c = omega arith

pub loop-at-preserved : goal.loop-at-preserved
loop-at-preserved c =
    let a = c.args in
    let x = c.sequence-n.ensures in
    let h : c.loop-at.at + c.sequence-n.result ≤ length a.s.now = omega arith in
    (h, c.loop-at.invariant.1 ∙ valid-on (λ n. (Ok tt)) _ c.loop-at.at _ x.0 c.if-n-eq0.false h)

pub returns : goal.returns
returns c = sym (c.loop-at.invariant.1 ∙ walk_end look_valid (λ n. (Ok tt)) _ _ c.loop-at-test.false)
