-- `raw::token::at_sign` meets its contract. Assumes nothing.
use Rattle.std.proofs.Common.{rules, arith}
use Rattle.text.proofs.general.Tests.{narrow-is}
use Rattle.raw.specs.Grammar.{is, at_sign}
use Rattle.raw.proofs.token.at_sign.Goals as goal

pub returns : goal.returns
unfolding at_sign
returns c = c.need.ensures (is 0x40) (narrow-is 0x40 (omega arith)) (λ b h r p. search rules)
