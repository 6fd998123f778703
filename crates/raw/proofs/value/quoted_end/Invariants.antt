-- The invariants of `raw::value::quoted_end`.
use Rattle.std.proofs.Common.{◌-◌, length}
use Rattle.raw.specs.Grammar.{quoted_turn}
use Rattle.raw.proofs.ways.ByteLoops.{Reached}
use Rattle.raw.proofs.value.quoted_end.Given as goal

abbrev pub invariant-loop-i : goal.invariant-loop-i
invariant-loop-i l = Reached quoted_turn l.s l.at 0 l.i

abbrev pub decreases-loop-i : goal.decreases-loop-i
decreases-loop-i l = length l.s - l.i
