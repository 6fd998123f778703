-- `chunk::sentence::put_normal` meets its contract. Assumes nothing.
use Rattle.std.proofs.Common.{ℕ, ◌<◌, arith, ◌≡◌, Bool, true, false, not, ◌&&◌, ltb, ltb-true}
use borrow.Author.Tests.{not-true}
use Rattle.text.proofs.general.Tests.{both_true}
use Rattle.chunk.proofs.sentences.Saying as laws
use Rattle.chunk.proofs.sentence.put_normal.Goals as goal

-- a run begins at i and ends at n, and the first character is over
run-here : (i n : ℕ) (f : Bool) → (ltb i n && not f) ≡ true → (i < n) × (f ≡ false)
run-here i n f e = let h = both_true (ltb i n) (not f) e in (ltb-true i n h.0, not-true f h.1)

pub loop-i-init : goal.loop-i-init
loop-i-init c =
    let a = c.args in
    laws.saying a.t.now a.from a.to a.begin.first a.begin.white a.out.now a.begin.at c.requires.0

pub ends_white-white-requires : goal.ends_white-white-requires
ends_white-white-requires c = (c.run_end-n.ensures.1, omega (arith, c.run_end-n.ensures.2, c.requires.1))

pub put_lowered-at-requires : goal.put_lowered-at-requires
put_lowered-at-requires c =
    let g = c.loop-i.invariant in
    let n = c.run_end-n.ensures in
    (n.1, omega (arith, n.2, c.requires.1), omega (arith, n.2, g.room, g.inside, c.requires.2))

pub loop-i-smaller-then-i-n : goal.loop-i-smaller-then-i-n
loop-i-smaller-then-i-n c = omega (arith, (run-here c.loop-i.i c.run_end-n.result c.loop-i.s.first c.if-i-n.true).0, c.run_end-n.ensures.2)

pub loop-i-preserved-then-i-n : goal.loop-i-preserved-then-i-n
loop-i-preserved-then-i-n c =
    let b = c.loop-i in
    let here = run-here b.i c.run_end-n.result b.s.first c.if-i-n.true in
    laws.runs b.invariant c.requires.1 here.1 here.0 c.run_end-n.ensures.2 c.run_end-n.ensures.0 c.ends_white-white.ensures
    c.put_lowered-at.ensures.puts c.put_lowered-at.ensures.from_value c.put_lowered-at.auto.out

pub step-s-requires : goal.step-s-requires
step-s-requires c =
    let g = c.loop-i.invariant in (
      c.loop-i-test.true,
      c.requires.1,
      omega (arith, g.room, c.loop-i-test.true, c.requires.2),
      λ k p q w. c.requires.3 k (omega (arith, g.first, p)) q w,
    )

pub loop-i-preserved : goal.loop-i-preserved
loop-i-preserved c =
    let said = c.step-s.ensures.white_value in
    laws.says c.loop-i.invariant c.requires.1 c.loop-i-test.true c.step-s.ensures.puts said.0 said.1 said.2 c.step-s.auto.out

pub returns : goal.returns
returns c =
    let g = c.loop-i.invariant in
    let done = laws.said g c.requires.1 c.loop-i-test.false in
    record { puts = done.0; white_value = (done.1, omega (arith, g.room, g.inside)) }
