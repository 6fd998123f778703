-- The invariants of `turn::turn::texts`.
use Rattle.std.proofs.Common.{◌-◌, ◌≡◌, length}
use Rattle.turn.specs.Turns.{Wrote, Grows}
use Rattle.turn.proofs.turn.texts.Given as goal

abbrev pub invariant-loop-verb : goal.invariant-loop-verb
invariant-loop-verb l = Wrote l.verb l.s l.at l.len l.initial.out l.i l.l l.out × Grows (length l.s) 0 l.at l.len l.i l.l × (length l.out ≡ length l.initial.out)

abbrev pub decreases-loop-verb : goal.decreases-loop-verb
decreases-loop-verb l = length l.s - l.i
