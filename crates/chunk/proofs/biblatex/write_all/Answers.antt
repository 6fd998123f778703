-- `chunk::biblatex::write_all` meets its contract. Assumes nothing.
use Rattle.std.proofs.Common.{arith, refl, ◌∙◌}
use Rattle.chunk.proofs.passes.Passes.{row_here}
use Rattle.chunk.proofs.passes.PassTurns as laws
use Rattle.chunk.proofs.biblatex.write_all.Goals as goal

pub loop-i-init : goal.loop-i-init
loop-i-init c =
    let a = c.args in
    (laws.write-start a.verb a.t.now a.rows.now _ c.put-at.result c.requires.0, omega (arith, c.put-at.ensures.value))

pub put_body-at-requires : goal.put_body-at-requires
put_body-at-requires c =
    let p = c.requires in
    let g = c.loop-i.invariant in
    let row = c.row_at-row.ensures in
    let fit = row_here g.0.checks p.0 c.loop-i-test.true row in
    (fit.0, fit.1, omega (arith, row.small, g.1, p.1, c.put_opening-next.ensures.upper_bound))

pub returns-then-room-at : goal.returns-then-room-at
returns-then-room-at c =
    let verb = c.args.verb in
    let row = laws.row_of c.kind_from-kind.ensures c.row_at-row.ensures in
    let read = laws.write-turn verb c.loop-i.invariant.0 c.requires.0 c.loop-i-test.true row in
    let now = read c.put_opening-next.ensures.puts c.put_body-at.ensures.puts refl (c.put_body-at.auto.out ∙ c.put_opening-next.auto.out) in
    laws.write-more verb now c.put-at.ensures.puts c.if-room-at.true

pub loop-i-preserved : goal.loop-i-preserved
loop-i-preserved c =
    let row = laws.row_of c.kind_from-kind.ensures c.row_at-row.ensures in
    let read = laws.write-turn c.args.verb c.loop-i.invariant.0 c.requires.0 c.loop-i-test.true row in
    let now = read c.put_opening-next.ensures.puts c.put_body-at.ensures.puts c.extra_after-extra.ensures (c.put_body-at.auto.out ∙ c.put_opening-next.auto.out) in
    (now, omega (arith, c.if-room-at.false))

pub returns : goal.returns
returns c =
    let first = c.put-at.ensures.puts in
    laws.write_done c.args.verb c.loop-i.invariant.0 first c.requires.0 c.loop-i-test.false c.put_closing.ensures.puts
