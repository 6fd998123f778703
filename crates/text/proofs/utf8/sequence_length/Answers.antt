-- `text::utf8::sequence_length` meets its contract. Assumes nothing.
use Prim.Native.Nat.{◌-◌}
use native.Mathlib.Omega.{arith}
use lib.Count.{leading_le}
use borrow.Author.Rules.{rules}
use Rattle.text.proofs.sequences.FirstOctet.{ones, none, some}
use Rattle.text.proofs.utf8.sequence_length.Goals as goal

pub overflow_cast-result : goal.overflow_cast-result
overflow_cast-result c = omega (arith, leading_le 8 (255 - c.args.b))

pub returns-then-ones-eq0 : goal.returns-then-ones-eq0
returns-then-ones-eq0 c = none (ones c.args.b (search rules)) c.if-ones-eq0.true

pub returns-else-ones-eq0 : goal.returns-else-ones-eq0
returns-else-ones-eq0 c = some (ones c.args.b (search rules)) c.if-ones-eq0.false
