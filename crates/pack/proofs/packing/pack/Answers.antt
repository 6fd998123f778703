-- `pack::packing::pack` meets its contract: checked first, written second. Assumes nothing.
use Rattle.std.proofs.Common.{sym, ◌∙◌, arith}
use Rattle.pack.proofs.contracts.Answers.{pack-done, pack-full, pack-bad}
use Rattle.pack.proofs.packing.pack.Goals as goal

pub returns-then-bytes-n : goal.returns-then-bytes-n
returns-then-bytes-n c =
    let a = c.args in
    rw c.nowhere.ensures (pack-full a.rows.now a.bytes.now (sym c.is_packable.ensures ∙ c.if-is_packable.true) (omega arith))

pub returns-then-is_packable : goal.returns-then-is_packable
returns-then-is_packable c =
    let a = c.args in
    pack-done a.rows.now a.bytes.now (sym c.is_packable.ensures ∙ c.if-is_packable.true) (omega arith) _ c.put_all.ensures

pub returns : goal.returns
returns c =
    let a = c.args in
    rw c.nowhere-2.ensures (pack-bad a.rows.now a.bytes.now (sym c.is_packable.ensures ∙ c.if-is_packable.false))
