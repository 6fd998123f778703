-- `lookup::plain::equal` meets its contract. Assumes nothing.
use Rattle.std.proofs.Common.{rules, tests, sym, ◌∙◌, ne_eqb}
use Rattle.std.proofs.lemmas.Iterator.{same_from_all, YieldsList-from_zip, YieldsList-from_slice}
use Rattle.text.proofs.general.SameBytes.{same_length}
use Rattle.lookup.proofs.bytes.Compared.{same_decided}
use Rattle.lookup.proofs.plain.equal.Goals as goal

pub returns-then-a-b : goal.returns-then-a-b
returns-then-a-b c =
    let a = c.args in
    let each = YieldsList-from_zip (YieldsList-from_slice a.a.now cc) (YieldsList-from_slice a.b.now cc) in
    same_decided a.a.now a.b.now c.all.result
    (same_from_all c.all.new.self _ _ a.a.now a.b.now c.all.ensures.ran each c.if-a-b.true (λ x q k. search (rules, tests)) (λ x q k. search (rules, tests)))

pub returns-else-a-b : goal.returns-else-a-b
returns-else-a-b c =
    let a = c.args in
    ne_eqb _ _ c.if-a-b.false ∙ sym (same_length a.a.now a.b.now c.if-a-b.false)
