-- `lookup::order::fill` meets its contract. Assumes nothing.
use Rattle.std.proofs.Common.{arith, ◌/◌, length}
use Rattle.lookup.proofs.links.RowBuckets.{room}
use Rattle.lookup.proofs.loops.FillWays.{gathered-most, filled}
use Rattle.lookup.proofs.order.fill.Goals as goal

pub overflow_cast-heads : goal.overflow_cast-heads
overflow_cast-heads c =
    let a = c.args in
    let r = room (length a.rows.now / 4) (length a.heads.now) (length a.next.now) c.requires in
    omega (arith, r.small, gathered-most a.rows.now c.gather-m.new.next c.gather-m.result c.gather-m.ensures.0 c.gather-m.ensures.1)

pub returns-clause-ordered : goal.returns-clause-ordered
returns-clause-ordered c =
    let a = c.args in
    let r = room (length a.rows.now / 4) (length a.heads.now) (length a.next.now) c.requires in
    λ e. filled a.rows.now c.gather-m.new.next c.gather-m.result c.gather-m.ensures.0 c.gather-m.ensures.1 a.file.now c.sort.new.spare c.sort.new.a
    (omega (arith, r.some, c.sort.auto.spare)) c.sort.ensures c.sort.auto.a
