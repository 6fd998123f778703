-- The invariants of `command::meaning::meaning_of`.
use Rattle.std.proofs.Common.{◌-◌, length}
use Rattle.text.specs.Scan.{part}
use Rattle.command.proofs.ways.MeaningRows as laws
use Rattle.command.proofs.meaning.meaning_of.Given as goal

abbrev pub invariant-loop-i : goal.invariant-loop-i
invariant-loop-i l = laws.Going l.names (part l.s l.a l.e) l.to l.i

abbrev pub decreases-loop-i : goal.decreases-loop-i
decreases-loop-i l = length l.names - l.i
