-- The invariants of `salvage::piece::short_length`.
use Rattle.std.proofs.Common.{ℕ, ◌+◌, ◌-◌}
use Rattle.salvage.specs.Inner.{PieceEnds}
use Rattle.salvage.proofs.piece.short_length.Given as goal

-- the bytes that were looked at belong to the piece
abbrev pub invariant-loop-k : goal.invariant-loop-k
invariant-loop-k l = (e : ℕ) → PieceEnds l.s (l.at + l.k - 1) e → PieceEnds l.s l.at e
