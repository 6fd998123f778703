-- `chunk::check::are_chunks` meets its contract. Assumes nothing.
use Rattle.std.proofs.Common.{sym, ◌∙◌}
use Rattle.chunk.proofs.rows.RowCheck as laws
use Rattle.chunk.proofs.check.are_chunks.Goals as goal

pub returns-then-rows-ne0 : goal.returns-then-rows-ne0
returns-then-rows-ne0 c = let a = c.args in laws.check-count a.t.now a.rows.now c.if-rows-ne0.true

pub loop-i-init : goal.loop-i-init
loop-i-init c = let a = c.args in laws.checking a.t.now a.rows.now c.if-rows-ne0.false

pub loop-i-preserved : goal.loop-i-preserved
loop-i-preserved c =
    let a = c.args in
    let e = laws.told a.t.now a.rows.now c.row_at-row.ensures (sym c.is_chunk.ensures ∙ c.if-not-is_chunk.false) in
    laws.check-turn c.loop-i.invariant c.loop-i-test.true e

pub returns-then-not-is_chunk : goal.returns-then-not-is_chunk
returns-then-not-is_chunk c =
    let a = c.args in
    let e = laws.told a.t.now a.rows.now c.row_at-row.ensures (sym c.is_chunk.ensures ∙ c.if-not-is_chunk.true) in
    laws.check-stop c.loop-i.invariant c.loop-i-test.true e

pub returns : goal.returns
returns c = laws.check_done c.loop-i.invariant c.loop-i-test.false
