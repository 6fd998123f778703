-- `pack::unpacking::put_all` meets its contract: each turn of the loop lays the next row over the lent numbers. Assumes nothing.
use Rattle.pack.proofs.loops.Chunks.{seven-next, seven_end}
use Rattle.pack.proofs.loops.RowWriting.{unpack-turn, unpack-end}
use Rattle.pack.proofs.unpacking.put_all.Goals as goal

pub loop-n-preserved : goal.loop-n-preserved
loop-n-preserved c =
    let a = c.args in
    let l = c.loop-n in
    unpack-turn a.bytes.now a.rows.now l.n l.rows (seven-next a.bytes.now c.as_chunks.ensures.front l.n c.loop-n-test.true)
    (rw c.unpacked.ensures at c.write_numbers.ensures) l.invariant

pub returns : goal.returns
returns c =
    let a = c.args in
    let l = c.loop-n in
    unpack-end a.bytes.now a.rows.now l.n (seven_end a.bytes.now c.as_chunks.ensures.front l.n c.loop-n-test.false) c.requires l.invariant
