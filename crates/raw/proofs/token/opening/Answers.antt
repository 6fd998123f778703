-- `raw::token::opening` meets its contract. Assumes nothing.
use Rattle.std.proofs.Common.{rules, ◌||◌, arith}
use Rattle.text.proofs.general.Tests.{narrow-is, narrow-or}
use Rattle.raw.specs.Grammar.{is, opening}
use Rattle.raw.proofs.token.opening.Goals as goal

pub returns : goal.returns
unfolding opening
returns c =
    c.need.ensures (λ b. is 0x7B b || is 0x22 b) (narrow-or (is 0x7B) (is 0x22) (narrow-is 0x7B (omega arith)) (narrow-is 0x22 (omega arith)))
    (λ b h r p. search rules)
