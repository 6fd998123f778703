-- `salvage::piece::short_length` meets its contract: the bytes looked at so far belong to the piece from `at` on. Assumes nothing.
use Rattle.std.proofs.Common.{◌+◌, ◌-◌, arith}
use Rattle.salvage.proofs.ways.PieceEnd.{short-found, short_on, ends-place}
use Rattle.salvage.proofs.piece.short_length.Goals as goal

pub returns-then-begins : goal.returns-then-begins
returns-then-begins c =
    let i = c.args.at + c.loop-k.k in
    λ h. c.loop-k.invariant i (short-found c.args.s.now i (omega arith) (omega arith) c.begins.ensures c.if-begins.true)

pub loop-k-preserved : goal.loop-k-preserved
loop-k-preserved c =
    let a = c.args in
    let s = a.s.now in
    let i = a.at + c.loop-k.k in
    λ e x. c.loop-k.invariant e
    (short_on s i (omega arith) (omega arith) c.begins.ensures c.if-begins.false e
    (ends-place s e (a.at + (c.loop-k.k + 1) - 1) i (omega arith) x))
