-- `salvage::piece::write_damage` meets its contract. Assumes nothing.
use Rattle.std.proofs.Common.{arith}
use Rattle.salvage.proofs.ways.ReadPiece.{damage-put}
use Rattle.salvage.proofs.piece.write_damage.Goals as goal

pub returns : goal.returns
returns c =
    let a = c.args in
    damage-put a.w.now a.base a.rows.now a.fault (omega arith) (omega arith) (omega arith) (omega arith) c.number.ensures c.put_row.ensures
    c.write_row.ensures
