-- `raw::token::key` meets its contract. Assumes nothing.
use Rattle.raw.proofs.ways.TokenWays.{key-told}
use Rattle.raw.proofs.token.key.Goals as goal

pub returns : goal.returns
returns c = let a = c.args in key-told a.s.now a.at c.eat_key.ensures.0 c.eat_key.ensures.1
