-- `raw::token::ident` meets its contract. Assumes nothing.
use Rattle.raw.proofs.ways.TokenWays.{ident-off, ident-line}
use Rattle.raw.proofs.token.ident.Goals as goal

pub returns-then-next-at : goal.returns-then-next-at
returns-then-next-at c =
    let a = c.args in
    rw c.fault_at.ensures (ident-off a.s.now a.at c.eat_start-next.ensures.0 c.if-next-at.true)

pub returns : goal.returns
returns c =
    let a = c.args in
    ident-line a.s.now a.at c.eat_start-next.ensures.0 c.if-next-at.false c.eat_start-next.ensures.1 c.eat_id.ensures.0 c.eat_id.ensures.1
