-- The invariants of `raw::value::quoted`.
use Rattle.std.proofs.Common.{◌-◌, length}
use Rattle.raw.specs.Grammar.{quoted_turn}
use Rattle.raw.proofs.ways.ByteLoops.{Reached}
use Rattle.raw.proofs.value.quoted.Given as goal

abbrev pub invariant-loop-at : goal.invariant-loop-at
invariant-loop-at l = Reached quoted_turn l.s l.at 0 l.i

abbrev pub decreases-loop-at : goal.decreases-loop-at
decreases-loop-at l = length l.s - l.i
