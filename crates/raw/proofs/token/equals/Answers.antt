-- `raw::token::equals` meets its contract. Assumes nothing.
use Rattle.std.proofs.Common.{rules, arith}
use Rattle.text.specs.Class.{holds_of}
use Rattle.text.proofs.general.Tests.{narrow-is}
use Rattle.raw.specs.Grammar.{is, equals}
use Rattle.raw.proofs.token.equals.Goals as goal

pub returns : goal.returns
unfolding equals holds_of
returns c = c.need.ensures (is 0x3D) (narrow-is 0x3D (omega arith)) (λ b h r p. search rules)
