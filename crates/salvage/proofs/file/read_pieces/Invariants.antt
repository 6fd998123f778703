-- The invariants of `salvage::file::read_pieces`.
use Rattle.std.proofs.Common.{◌-◌, length}
use Rattle.salvage.proofs.ways.PieceLoop.{Going}
use Rattle.salvage.proofs.file.read_pieces.Given as goal

abbrev pub invariant-loop-at : goal.invariant-loop-at
invariant-loop-at l = Going l.s l.initial.rows l.rows l.valid l.at l.n l.sound

abbrev pub decreases-loop-at : goal.decreases-loop-at
decreases-loop-at l = length l.s - l.at
