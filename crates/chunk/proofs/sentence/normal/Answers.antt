-- `chunk::sentence::normal` meets its contract. Assumes nothing.
use Rattle.chunk.proofs.texts.PlainRuns.{ascii-lowers}
use Rattle.chunk.proofs.sentence.normal.Goals as goal

pub put_normal-requires : goal.put_normal-requires
put_normal-requires c =
    let a = c.args in
    let p = c.requires in
    (p.0, p.1, p.2, ascii-lowers a.t.now a.from a.to p.0 p.1 (c.all_ascii.ensures c.if-all_ascii.true))
