-- `salvage::piece::far_end` meets its contract: the bytes before `i` belong to the piece from `at` on. Assumes nothing.
use Rattle.std.proofs.Common.{arith}
use Rattle.salvage.proofs.ways.PieceEnd.{found-last, found-head, found-on}
use Rattle.salvage.proofs.piece.far_end.Goals as goal

pub returns-then-s-j : goal.returns-then-s-j
returns-then-s-j c =
    let a = c.args in
    let l = c.loop-at in
    l.invariant.2 _ (found-last a.s.now l.i _ l.invariant.1 c.find-j.ensures c.if-s-j.true)

pub returns-then-s-j-eq10 : goal.returns-then-s-j-eq10
returns-then-s-j-eq10 c =
    let a = c.args in
    c.loop-at.invariant.2 _ (found-head a.s.now c.loop-at.i _ c.loop-at.invariant.1 c.find-j.ensures c.if-s-j.false c.if-s-j-eq10.true)

pub loop-at-preserved : goal.loop-at-preserved
loop-at-preserved c =
    let a = c.args in
    let f = c.find-j.ensures in
    (omega (arith, f.from), c.if-s-j.false, λ e x. c.loop-at.invariant.2 e (found-on a.s.now c.loop-at.i _ c.loop-at.invariant.1 f c.if-s-j.false c.if-s-j-eq10.false e x))
