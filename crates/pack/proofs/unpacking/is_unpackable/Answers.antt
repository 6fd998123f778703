-- `pack::unpacking::is_unpackable` meets its contract: each turn of the loop judges a row. Assumes nothing.
use Rattle.std.proofs.Common.{ℕ, ap, List, get_or, le-leb, arith}
use Rattle.std.proofs.lemmas.Bool.{lt-leb}
use Rattle.row.specs.Limits.{most_bytes}
use Rattle.pack.proofs.loops.Chunks.{seven-next, seven_end}
use Rattle.pack.proofs.loops.Judging.{judge-row, judge-off, judge-end, seven-count, seven-start}
use Rattle.pack.proofs.unpacking.is_unpackable.Goals as goal

pub returns-then-bytes-ne0 : goal.returns-then-bytes-ne0
returns-then-bytes-ne0 c = seven-count c.args.bytes.now c.if-bytes-ne0.true

pub loop-seven-init : goal.loop-seven-init
loop-seven-init c = seven-start c.args.bytes.now c.if-bytes-ne0.false c.first-masks.ensures

pub returns-then-end-gt-LAST_PLACE : goal.returns-then-end-gt-LAST_PLACE
returns-then-end-gt-LAST_PLACE c =
    let l = c.loop-seven in
    let e = seven-next c.args.bytes.now c.as_chunks.ensures.front l.seven-index c.loop-seven-test.true in
    judge-off l.invariant e (lt-leb _ most_bytes (rw c.unpacked.ensures at c.if-end-gt-LAST_PLACE.true))

pub loop-seven-preserved : goal.loop-seven-preserved
loop-seven-preserved c =
    let l = c.loop-seven in
    let e = seven-next c.args.bytes.now c.as_chunks.ensures.front l.seven-index c.loop-seven-test.true in
    let last = ap (λ (w : List ℕ). get_or w 3 0) c.unpacked.ensures in
    judge-row l.invariant e (rw c.unpacked.ensures at c.step-masks.ensures) (le-leb _ most_bytes (omega (arith, last)))

pub returns : goal.returns
returns c =
    let l = c.loop-seven in
    judge-end l.invariant (seven_end c.args.bytes.now c.as_chunks.ensures.front l.seven-index c.loop-seven-test.false) c.is_whole.ensures
