-- `pack::unpacking::unpack` meets its contract: checked first, written second. Assumes nothing.
use Rattle.std.proofs.Common.{sym, ◌∙◌, arith}
use Rattle.pack.proofs.contracts.Answers.{unpack-done, unpack-full, unpack-bad}
use Rattle.pack.proofs.unpacking.unpack.Goals as goal

pub returns-then-rows-n : goal.returns-then-rows-n
returns-then-rows-n c =
    let a = c.args in
    rw c.nowhere.ensures (unpack-full a.bytes.now a.rows.now (sym c.is_unpackable.ensures ∙ c.if-is_unpackable.true) (omega arith))

pub returns-then-is_unpackable : goal.returns-then-is_unpackable
returns-then-is_unpackable c =
    let a = c.args in
    unpack-done a.bytes.now a.rows.now (sym c.is_unpackable.ensures ∙ c.if-is_unpackable.true) (omega arith) _ c.put_all.ensures

pub returns : goal.returns
returns c =
    let a = c.args in
    rw c.nowhere-2.ensures (unpack-bad a.bytes.now a.rows.now (sym c.is_unpackable.ensures ∙ c.if-is_unpackable.false))
