-- `raw::token::comment` meets its contract. Assumes nothing.
use Rattle.text.specs.Class.{holds_of}
use Rattle.raw.proofs.ways.TokenWays.{comment-off, comment-line}
use Rattle.raw.proofs.token.comment.Goals as goal

pub returns-then-next-at : goal.returns-then-next-at
unfolding holds_of
returns-then-next-at c = let a = c.args in comment-off a.s.now a.at c.eat_byte-next.ensures.0 c.if-next-at.true

pub returns : goal.returns
unfolding holds_of
returns c =
    let a = c.args in
    comment-line a.s.now a.at c.eat_byte-next.ensures.0 c.if-next-at.false c.eat_byte-next.ensures.1 c.eat_line.ensures.0 c.eat_line.ensures.1
