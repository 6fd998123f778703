-- `chunk::format::surely_fits` meets its contract. Assumes nothing.
use Rattle.std.proofs.Common.{arith}
use Rattle.chunk.proofs.passes.Passes.{row_here}
use Rattle.chunk.proofs.passes.Bounds as laws
use Rattle.chunk.proofs.format.surely_fits.Goals as goal

pub loop-i-init : goal.loop-i-init
loop-i-init c =
    let p = c.requires.0 in
    (laws.fit-start c.args.times p.0 c.args.rows.now p.1, omega arith)

pub overflow_sub-n : goal.overflow_sub-n
overflow_sub-n c =
    let g = c.loop-i.invariant.0 in
    (row_here g.checks g.chunks c.loop-i-test.true c.row_at-row.ensures).0

pub returns-then-room-n : goal.returns-then-room-n
returns-then-room-n c = laws.fit-stop (laws.fit-turn c.loop-i.invariant.0 c.loop-i-test.true c.row_at-row.ensures) c.if-room-n.true

pub loop-i-preserved : goal.loop-i-preserved
loop-i-preserved c = (laws.fit-turn c.loop-i.invariant.0 c.loop-i-test.true c.row_at-row.ensures, c.if-room-n.false)

pub returns : goal.returns
returns c = let v = c.loop-i in laws.fit-done v.invariant.0 c.loop-i-test.false v.invariant.1
