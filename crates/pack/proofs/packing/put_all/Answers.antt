-- `pack::packing::put_all` meets its contract: each turn of the loop writes the next row over the lent bytes. Assumes nothing.
use Rattle.std.proofs.Common.{arith}
use Rattle.pack.proofs.loops.ListWriting.{at_first}
use Rattle.pack.proofs.bytes.AcceptedInput.{packable, packable-seven, first-seven}
use Rattle.pack.proofs.loops.Chunks.{chunk-next, chunk_end}
use Rattle.pack.proofs.loops.RowWriting.{pack-turn, pack-end}
use Rattle.pack.proofs.packing.put_all.Goals as goal

pub loop-k-init : goal.loop-k-init
loop-k-init c = let l = c.args.rows.now in (packable-seven l (packable l c.requires.0), at_first _ _)

pub put_packed-requires : goal.put_packed-requires
put_packed-requires c =
    let l = c.loop-k in
    let e = chunk-next c.args.rows.now c.as_chunks.ensures.front l.k c.loop-k-test.true in
    (omega (arith, c.as_chunks.ensures.front_len, c.loop-k-test.true, l.auto.bytes, c.requires.1), (first-seven e l.invariant.0).0)

pub loop-k-preserved : goal.loop-k-preserved
loop-k-preserved c =
    let a = c.args in
    let l = c.loop-k in
    let e = chunk-next a.rows.now c.as_chunks.ensures.front l.k c.loop-k-test.true in
    ((first-seven e l.invariant.0).1, pack-turn a.rows.now a.bytes.now l.k e c.put_packed.ensures l.invariant.1)

pub returns : goal.returns
returns c =
    let a = c.args in
    let l = c.loop-k in
    pack-end a.rows.now a.bytes.now l.k (chunk_end a.rows.now c.as_chunks.ensures.front l.k c.loop-k-test.false)
    (omega (arith, c.as_chunks.ensures.front_len, c.loop-k-test.false, l.auto.k-end)) l.invariant.1
