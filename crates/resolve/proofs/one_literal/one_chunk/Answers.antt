-- `resolve::one_literal::one_chunk` meets its contract. Assumes nothing.
use Rattle.resolve.proofs.ways.WriteWays.{one-full, one-done}
use Rattle.resolve.proofs.one_literal.one_chunk.Goals as goal

pub returns-then-chunks-text : goal.returns-then-chunks-text
returns-then-chunks-text c =
    let a = c.args in
    rw c.nowhere.ensures (one-full a.t.now a.n a.start a.end c.requires.0 c.requires.1 a.chunks.now a.text.now c.if-chunks-text.true)

pub returns : goal.returns
returns c =
    let a = c.args in
    one-done a.t.now a.n a.start a.end c.requires.0 c.requires.1 a.chunks.now a.text.now c.if-chunks-text.false
    c.none.result c.none.ensures.by_index c.whole.result _ c.whole.ensures.pushes c.copy.result _ c.copy.ensures.puts
