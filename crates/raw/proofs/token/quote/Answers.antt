-- `raw::token::quote` meets its contract. Assumes nothing.
use Rattle.std.proofs.Common.{rules, arith}
use Rattle.text.specs.Class.{holds_of}
use Rattle.text.proofs.general.Tests.{narrow-is}
use Rattle.raw.specs.Grammar.{is, quote}
use Rattle.raw.proofs.token.quote.Goals as goal

pub returns : goal.returns
unfolding quote holds_of
returns c = c.need.ensures (is 0x22) (narrow-is 0x22 (omega arith)) (λ b h r p. search rules)
