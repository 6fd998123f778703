-- `pack::packing::is_packable` meets its contract: each turn of the loop judges a row. Assumes nothing.
use Rattle.pack.proofs.loops.Chunks.{row_in, chunk-next, chunk_end, outside-off, inside-on}
use Rattle.pack.proofs.loops.Judging.{judge-row, judge-off, judge-end, four-count, four-start}
use Rattle.pack.proofs.packing.is_packable.Goals as goal

pub returns-then-rows-ne0 : goal.returns-then-rows-ne0
returns-then-rows-ne0 c = four-count c.args.rows.now c.if-rows-ne0.true

pub loop-kind-init : goal.loop-kind-init
loop-kind-init c = four-start c.args.rows.now c.if-rows-ne0.false c.first-masks.ensures

pub returns-then-end-start : goal.returns-then-end-start
returns-then-end-start c =
    let l = c.loop-kind in
    let e = chunk-next c.args.rows.now c.as_chunks.ensures.front l.kind-index c.loop-kind-test.true in
    judge-off l.invariant e (outside-off (row_in c.as_chunks.result.0.now l.kind-index) c.if-end-start.true)

pub loop-kind-preserved : goal.loop-kind-preserved
loop-kind-preserved c =
    let l = c.loop-kind in
    let e = chunk-next c.args.rows.now c.as_chunks.ensures.front l.kind-index c.loop-kind-test.true in
    judge-row l.invariant e c.step-masks.ensures (inside-on (row_in c.as_chunks.result.0.now l.kind-index) c.if-end-start.false)

pub returns : goal.returns
returns c =
    let l = c.loop-kind in
    judge-end l.invariant (chunk_end c.args.rows.now c.as_chunks.ensures.front l.kind-index c.loop-kind-test.false) c.is_whole.ensures
