-- `salvage::piece::read_piece` meets its contract. Assumes nothing.
use Rattle.std.proofs.Common.{refl, arith}
use Rattle.text.specs.Utf8.{Octets}
use Rattle.salvage.proofs.ways.ReadPiece.{valid-known, valid-checked, piece-sound, ill-strict, off-strict, off-damage, piece-damaged, piece-unwritten}
use Rattle.salvage.proofs.piece.read_piece.Goals.{else-not-valid, then-not-valid+in_default}
use Rattle.salvage.proofs.piece.read_piece.Goals as goal

pub write_damage-requires : goal.write_damage-requires
write_damage-requires c =
    let w = c.args.w.now in
    rw c.from.ensures (off-damage w c.requires c.args.rows.now (ill-strict w c.requires c.args.rows.now c.in-Err.ensures))

pub returns-in-Err : goal.returns-in-Err
returns-in-Err c =
    let w = c.args.w.now in
    let rows = c.args.rows.now in
    piece-damaged w c.requires rows (ill-strict w c.requires rows c.in-Err.ensures) rows refl (rw c.from.ensures at c.write_damage.ensures)

pub write_damage-requires-then-rows-ge8 : goal.write_damage-requires-then-rows-ge8
write_damage-requires-then-rows-ge8 c =
    let w = c.args.w.now in
    let rows = c.args.rows.now in
    let o : Octets w = (elim c.if-not-valid.branch [
      | then-not-valid+in_default y ↦ valid-checked w c.requires rows y.in_default.ensures
      | else-not-valid y ↦ valid-known w c.requires rows y.if-not-valid.false
    ]) in
    rw c.culprit.ensures (off-damage w c.requires rows (off-strict w c.requires rows o c.in-Err-parse.ensures.says))

pub returns-in-Ok : goal.returns-in-Ok
returns-in-Ok c =
    let w = c.args.w.now in
    let rows = c.args.rows.now in
    let o : Octets w = (elim c.if-not-valid.branch [
      | then-not-valid+in_default y ↦ valid-checked w c.requires rows y.in_default.ensures
      | else-not-valid y ↦ valid-known w c.requires rows y.if-not-valid.false
    ]) in
    piece-sound w c.requires rows o c.in-Ok.ensures.says c.in-Ok.ensures.within

pub returns-then-rows-ge8 : goal.returns-then-rows-ge8
returns-then-rows-ge8 c =
    let w = c.args.w.now in
    let rows = c.args.rows.now in
    let o : Octets w = (elim c.if-not-valid.branch [
      | then-not-valid+in_default y ↦ valid-checked w c.requires rows y.in_default.ensures
      | else-not-valid y ↦ valid-known w c.requires rows y.if-not-valid.false
    ]) in
    let x = off-strict w c.requires rows o c.in-Err-parse.ensures.says in
    piece-damaged w c.requires rows x c.parse.new.rows c.parse.auto.rows (rw c.culprit.ensures at c.write_damage-then-rows-ge8.ensures)

pub returns-else-rows-ge8 : goal.returns-else-rows-ge8
returns-else-rows-ge8 c =
    let w = c.args.w.now in
    let rows = c.args.rows.now in
    let o : Octets w = (elim c.if-not-valid.branch [
      | then-not-valid+in_default y ↦ valid-checked w c.requires rows y.in_default.ensures
      | else-not-valid y ↦ valid-known w c.requires rows y.if-not-valid.false
    ]) in
    let x = off-strict w c.requires rows o c.in-Err-parse.ensures.says in
    piece-unwritten w c.requires rows x (omega (arith, c.if-rows-ge8.false, c.parse.auto.rows))
