-- `lookup::plain::find` meets its contract. Assumes nothing.
use Rattle.std.proofs.Common.{sym, ◌∙◌, arith}
use Rattle.lookup.proofs.rows.PlainSearch.{plain-starts, plain-hit, plain-on}
use Rattle.lookup.proofs.plain.find.Goals as goal

pub loop-i-init : goal.loop-i-init
loop-i-init c =
    let a = c.args in
    plain-starts a.file.now a.name.now a.rows.now

pub returns-then-is_named : goal.returns-then-is_named
returns-then-is_named c =
    let a = c.args in
    plain-hit a.file.now a.name.now a.rows.now c.loop-i.i _ (omega arith) c.loop-i.invariant (sym c.is_named.ensures ∙ c.if-is_named.true)

pub loop-i-preserved : goal.loop-i-preserved
loop-i-preserved c =
    let a = c.args in
    plain-on a.file.now a.name.now a.rows.now c.loop-i.i _ (omega arith) c.loop-i.invariant (sym c.is_named.ensures ∙ c.if-is_named.false)
