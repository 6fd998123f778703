-- `literal::parse::begin` meets its contract. Assumes nothing.
use Rattle.literal.proofs.ways.LiteralWays.{begun-long, begun-whole, begun-part}
use Rattle.literal.proofs.parse.begin.Goals as goal

pub returns-then-s-gt-MOST_LITERAL : goal.returns-then-s-gt-MOST_LITERAL
returns-then-s-gt-MOST_LITERAL c =
    let a = c.args in
    begun-long a.verb a.s.now a.out.now

pub returns-then-s-t : goal.returns-then-s-t
returns-then-s-t c =
    let a = c.args in
    begun-whole a.verb a.s.now a.out.now c.texts-t.result.at c.texts-t.result.len _ c.texts-t.ensures.wrote
    c.texts-t.ensures.grows c.if-s-gt-MOST_LITERAL.false c.if-s-t.true

pub returns : goal.returns
returns c =
    let a = c.args in
    begun-part a.verb a.s.now a.out.now c.texts-t.result.at c.texts-t.result.len _ c.texts-t.ensures.wrote
    c.texts-t.ensures.grows
