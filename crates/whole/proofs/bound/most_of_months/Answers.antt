-- `whole::bound::most_of_months` meets its contract. Assumes nothing.
use Rattle.std.specs.Prelude.{Some}
use Rattle.std.proofs.Common.{arith}
use Rattle.resolve.proofs.Fours.{fours}
use Rattle.whole.proofs.counting.NamesMost.{months-start, months-on}
use Rattle.whole.proofs.bound.most_of_months.Goals as goal

pub loop-month-init : goal.loop-month-init
loop-month-init c = (months-start c.args.months.now (Some (record { rows = 0; bytes = 0 })), (omega arith, omega arith))

pub loop-month-preserved : goal.loop-month-preserved
loop-month-preserved c =
    let l = c.loop-month in
    let months = c.args.months.now in
    let from = fours.four_at months c.as_chunks.ensures.front l.month-index c.loop-month-test.true 2 (omega arith) in
    let to = fours.four_at months c.as_chunks.ensures.front l.month-index c.loop-month-test.true 3 (omega arith) in
    let one = c.most_of_text.ensures in
    let e = c.either-most.ensures in
    (months-on months l.month-index l.most _ _ l.invariant.0 (rw (from, to) at one.0) e, e.small l.invariant.1 one.1)

pub returns : goal.returns
returns c =
    let l = c.loop-month in
    (λ j h. l.invariant.0 j (omega (arith, c.as_chunks.ensures.front_len, c.loop-month-test.false)), l.invariant.1)
