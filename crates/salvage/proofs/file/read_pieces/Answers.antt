-- `salvage::file::read_pieces` meets its contract: the rows of the pieces read so far, and then those of the pieces that are left, are the
-- rows of the file. Assumes nothing.
use Rattle.std.proofs.Common.{◌∙◌}
use Rattle.salvage.proofs.ways.PieceLoop.{going_start, going-asks, going-next, gone, ord_min-is}
use Rattle.salvage.proofs.file.read_pieces.Goals as goal

pub loop-at-init : goal.loop-at-init
loop-at-init c = going_start c.args.s.now c.args.rows.now c.args.valid c.requires.valid

pub read_piece-read-requires : goal.read_piece-read-requires
read_piece-read-requires c =
    let l = c.loop-at in
    going-asks c.args.s.now c.args.rows.now l.rows c.args.valid l.at _ l.n l.sound l.invariant c.piece_end-end.ensures c.requires.short
    c.requires.valid

pub loop-at-preserved : goal.loop-at-preserved
loop-at-preserved c =
    let l = c.loop-at in
    going-next c.args.s.now c.args.rows.now l.rows c.args.valid l.at _ l.n l.sound l.invariant c.piece_end-end.ensures
    c.requires.valid (c.min-i.ensures ∙ ord_min-is _ _) c.read_piece-read.new.rows c.read_piece-read.ensures c.read_piece-read.auto.rows

pub returns : goal.returns
returns c =
    let a = c.args in
    let l = c.loop-at in
    gone a.s.now a.rows.now l.rows a.valid l.at l.n l.sound l.invariant c.loop-at-test.false
