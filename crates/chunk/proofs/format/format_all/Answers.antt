-- `chunk::format::format_all` meets its contract. Assumes nothing.
use Rattle.std.proofs.Common.{arith}
use Rattle.chunk.proofs.passes.Passes.{row_here}
use Rattle.chunk.proofs.passes.PassTurns as laws
use Rattle.chunk.proofs.format.format_all.Goals as goal

pub loop-i-init : goal.loop-i-init
loop-i-init c =
    let a = c.args in
    (laws.format-start a.t.now a.rows.now a.out.now c.requires.0, omega arith)

pub format_one-next-requires : goal.format_one-next-requires
format_one-next-requires c =
    let p = c.requires in
    let g = c.loop-i.invariant in
    let row = c.row_at-row.ensures in
    let fit = row_here g.0.checks p.0 c.loop-i-test.true row in
    (fit.0, fit.1, omega (arith, row.small, g.1, p.1))

pub returns-then-room-next : goal.returns-then-room-next
returns-then-room-next c =
    let row = laws.row_of c.kind_from-kind.ensures c.row_at-row.ensures in
    let read = laws.format-turn c.loop-i.invariant.0 c.requires.0 c.loop-i-test.true row in
    laws.format-more (read c.format_one-next.ensures.puts c.format_one-next.ensures.white_value.0 c.format_one-next.auto.out) c.if-room-next.true

pub loop-i-preserved : goal.loop-i-preserved
loop-i-preserved c =
    let row = laws.row_of c.kind_from-kind.ensures c.row_at-row.ensures in
    let read = laws.format-turn c.loop-i.invariant.0 c.requires.0 c.loop-i-test.true row in
    (read c.format_one-next.ensures.puts c.format_one-next.ensures.white_value.0 c.format_one-next.auto.out, c.if-room-next.false)

pub returns : goal.returns
returns c = laws.format-done c.loop-i.invariant.0 c.requires.0 c.loop-i-test.false
