-- `literal::parse::close` meets its contract. Assumes nothing.
use Rattle.literal.proofs.ways.MakingWays.{literal-done}
use Rattle.literal.proofs.ways.LiteralWays.{closed-done, closed-left}
use Rattle.literal.proofs.parse.close.Goals as goal

pub returns-then-t : goal.returns-then-t
returns-then-t c =
    let a = c.args in
    let p = c.requires in
    closed-done a.place a.t a.out.now a.numbers.now p.2 _ _ _ c.if-t.true
    (literal-done a.place a.t a.out.now a.numbers.now a.t.at 0 a.t.at p.0.from p.0.to p.2
    c.default_chunk-kind.result c.narrow-from.result c.narrow-to.result c.narrow-first.result c.narrow-last.result c.push.result _
    c.default_chunk-kind.ensures c.narrow-from.ensures c.narrow-to.ensures (c.narrow-first.ensures p.0.start) (c.narrow-last.ensures p.1)
    c.push.ensures.pushes c.push.ensures.n_le_n.1)

pub returns : goal.returns
returns c =
    let a = c.args in
    closed-left a.place a.t a.out.now a.numbers.now c.requires.2 c.if-t.false
