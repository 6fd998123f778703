-- `search::place` meets its contract. The loop's invariant: the search between `lo` and `hi` finds what the search among all rows finds.
-- The measure is the number of rows in between.
-- Assumes nothing.
use Rattle.std.proofs.Common.{◌≡◌, true, false, refl, sym, ◌∙◌, arith, rules, tests}
use Rattle.search.specs.Halving.{is_low, middle, place_of}
use Rattle.search.proofs.halving.Turns.{on-behind, on-front, over}
use Rattle.search.proofs.place.Goals as goal

pub loop-lo-init : goal.loop-lo-init
unfolding place_of
loop-lo-init c = (omega arith, omega arith, refl)

pub loop-lo-preserved-then-is_low : goal.loop-lo-preserved-then-is_low
loop-lo-preserved-then-is_low c =
    let a = c.args in
    let i = c.loop-lo in
    let low : is_low a.width a.t.now a.a a.b (middle i.lo i.hi) ≡ true = search (rules, tests) in
    (omega arith, omega arith, on-behind (is_low a.width a.t.now a.a a.b) i.lo i.hi c.loop-lo-test.true low ∙ i.invariant.2)

pub loop-lo-preserved : goal.loop-lo-preserved
loop-lo-preserved c =
    let a = c.args in
    let i = c.loop-lo in
    let low : is_low a.width a.t.now a.a a.b (middle i.lo i.hi) ≡ false = search (rules, tests) in
    (omega arith, omega arith, on-front (is_low a.width a.t.now a.a a.b) i.lo i.hi c.loop-lo-test.true low ∙ i.invariant.2)

pub returns : goal.returns
returns c =
    let a = c.args in
    let i = c.loop-lo in
    (sym (over (is_low a.width a.t.now a.a a.b) i.lo i.hi c.loop-lo-test.false) ∙ i.invariant.2, omega arith)
