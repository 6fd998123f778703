-- `chunk::form::write_chunk` meets its contract. Assumes nothing.
use Rattle.chunk.specs.Chunk.{kind_of, chunk_row}
use Rattle.chunk.proofs.rows.ChunkRows.{put-sets, put-out}
use Rattle.chunk.proofs.form.write_chunk.Goals as goal

pub returns-then-n-rows : goal.returns-then-n-rows
returns-then-n-rows c =
    let a = c.args in
    let row = chunk_row (kind_of a.kind) a.from a.to a.start a.end in
    rw c.from-number.ensures (put-sets a.rows.now a.n row c.if-n-rows.true)

pub returns-else-n-rows : goal.returns-else-n-rows
returns-else-n-rows c =
    let a = c.args in
    put-out a.rows.now a.n (chunk_row (kind_of a.kind) a.from a.to a.start a.end) c.if-n-rows.false
