-- The invariants of `turn::turn::argument_end`.
use Rattle.std.proofs.Common.{◌-◌, ◌≤◌, ◌≡◌, length}
use Rattle.raw.specs.Reader.{many}
use Rattle.turn.specs.Content.{end_turn, argument_end}
use Rattle.turn.specs.Turns.{end_of}
use Rattle.turn.proofs.turn.argument_end.Given as goal

abbrev pub invariant-loop-at : goal.invariant-loop-at
invariant-loop-at l = (l.at ≤ l.i) × (l.i ≤ length l.s) × (l.depth ≤ l.i) × (end_of (argument_end l.s l.at) ≡ end_of (many end_turn l.depth l.s l.i))

abbrev pub decreases-loop-at : goal.decreases-loop-at
decreases-loop-at l = length l.s - l.i
