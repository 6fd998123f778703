-- `turn::turn::is_simple` meets its contract. Assumes nothing.
use Rattle.std.proofs.Common.{eqb, ltb}
use Rattle.text.specs.Block.{is_simple}
use Rattle.turn.proofs.ways.TestChains.{plains}
use Rattle.turn.proofs.turn.is_simple.Goals as goal

pub returns : goal.returns
unfolding is_simple
returns c =
    let b = c.args.b in
    plains (ltb 0x1F b) (ltb b 0x7F) (eqb b 0x24) (eqb b 0x2D) (eqb b 0x5C) (eqb b 0x7B) (eqb b 0x7D)
