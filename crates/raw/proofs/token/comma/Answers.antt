-- `raw::token::comma` meets its contract. Assumes nothing.
use Rattle.std.proofs.Common.{rules, arith}
use Rattle.text.specs.Class.{holds_of}
use Rattle.text.proofs.general.Tests.{narrow-is}
use Rattle.raw.specs.Grammar.{is, comma}
use Rattle.raw.proofs.token.comma.Goals as goal

pub returns : goal.returns
unfolding comma holds_of
returns c = c.need.ensures (is 0x2C) (narrow-is 0x2C (omega arith)) (λ b h r p. search rules)
