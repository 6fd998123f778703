-- `pack::packing::put_packed` meets its contract: the seven stores are the bytes of a row. Assumes nothing.
use Rattle.std.proofs.Common.{ℕ, ◌+◌, ap, ◌∙◌, List, ◌++◌, arith, take, drop}
use Rattle.row.specs.Row.{row_of}
use Rattle.pack.proofs.loops.ListWriting.{set-seven}
use Rattle.pack.proofs.bytes.SevenBytes.{seven_is}
use Rattle.pack.proofs.packing.put_packed.Goals as goal

pub returns : goal.returns
returns c =
    let a = c.args in
    let f = c.requires.1 in
    let r = row_of a.kind a.detail a.start a.end in
    rw (c.to_be_bytes-from.ensures, c.to_be_bytes-size.ensures)
    (set-seven a.bytes.now a.p _ _ _ _ _ _ _ c.requires.0
    ∙ ap (λ (w : List ℕ). take a.p a.bytes.now ++ w ++ drop (a.p + 7) a.bytes.now)
    (seven_is r (omega arith) (omega arith) (omega arith) (omega arith) (omega arith) (omega arith) (omega arith)))
