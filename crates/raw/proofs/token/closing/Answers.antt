-- `raw::token::closing` meets its contract. Assumes nothing.
use Rattle.std.proofs.Common.{rules, ◌||◌, arith}
use Rattle.text.proofs.general.Tests.{narrow-is, narrow-or}
use Rattle.raw.specs.Grammar.{is, closing}
use Rattle.raw.proofs.token.closing.Goals as goal

pub returns : goal.returns
unfolding closing
returns c =
    c.need.ensures (λ b. is 0x7D b || is 0x22 b) (narrow-or (is 0x7D) (is 0x22) (narrow-is 0x7D (omega arith)) (narrow-is 0x22 (omega arith)))
    (λ b h r p. search rules)
