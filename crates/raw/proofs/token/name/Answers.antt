-- `raw::token::name` meets its contract. Assumes nothing.
use Rattle.raw.proofs.ways.TokenWays.{ident-letters}
use Rattle.raw.proofs.token.name.Goals as goal

pub returns-then-b-ender : goal.returns-then-b-ender
returns-then-b-ender c =
    let a = c.args in
    ident-letters a.s.now a.at c.eat_letters-end.ensures c.if-at-end.true c.if-end-s.true c.requires c.if-b-ender.true
