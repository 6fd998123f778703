-- The invariants of `salvage::piece::far_end`.
use Rattle.std.proofs.Common.{ℕ, ◌-◌, ◌≤◌, ◌<◌, length}
use Rattle.salvage.specs.Inner.{PieceEnds}
use Rattle.salvage.proofs.piece.far_end.Given as goal

abbrev pub invariant-loop-at : goal.invariant-loop-at
invariant-loop-at l = (l.at ≤ l.i) × (l.i < length l.s) × ((e : ℕ) → PieceEnds l.s l.i e → PieceEnds l.s l.at e)

abbrev pub decreases-loop-at : goal.decreases-loop-at
decreases-loop-at l = length l.s - l.i
