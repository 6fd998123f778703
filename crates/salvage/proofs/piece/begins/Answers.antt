-- `salvage::piece::begins` meets its contract. Assumes nothing.
use Rattle.salvage.proofs.ways.PieceEnd.{begins-not, begins-is}
use Rattle.salvage.proofs.piece.begins.Goals as goal

pub returns-then-s-i-ne64 : goal.returns-then-s-i-ne64
returns-then-s-i-ne64 c = let a = c.args in begins-not a.s.now a.i c.requires.1 c.if-s-i-ne64.true

pub returns : goal.returns
returns c = let a = c.args in begins-is a.s.now a.i c.requires.1 c.if-s-i-ne64.false
