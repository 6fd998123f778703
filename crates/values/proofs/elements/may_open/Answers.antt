-- `values::elements::may_open` meets its contract. Assumes nothing.
use Rattle.std.proofs.Common.{sym, ◌∙◌}
use Rattle.values.proofs.naming.OpenWays.{has, open-cyclic, open-definition, open-month, open_unknown}
use Rattle.values.proofs.elements.may_open.Goals as goal

pub returns-then-on_path : goal.returns-then-on_path
returns-then-on_path c =
    let a = c.args in
    open-cyclic a.m _ a.left a.names _ (has c.in-Some-Definition.is (rw c.in-Some-Definition.is at c.in-Some-Definition.field-0-is)) (sym c.on_path.ensures ∙ c.if-on_path.true)

pub returns-else-on_path : goal.returns-else-on_path
returns-else-on_path c =
    let a = c.args in
    open-definition a.m _ a.left a.names _ (has c.in-Some-Definition.is (rw c.in-Some-Definition.is at c.in-Some-Definition.field-0-is))
    (sym c.on_path.ensures ∙ c.if-on_path.false) _ c.limits.ensures

pub returns-in-Some-Month : goal.returns-in-Some-Month
returns-in-Some-Month c =
    let a = c.args in
    open-month a.m _ a.left a.names _ _ (has c.in-Some-Month.is (rw c.in-Some-Month.is at c.in-Some-Month.field-0-is)) _ c.limits-in-Some-Month.ensures

pub returns-in-None : goal.returns-in-None
returns-in-None c = let a = c.args in open_unknown a.m _ a.left a.names c.in-None.is
