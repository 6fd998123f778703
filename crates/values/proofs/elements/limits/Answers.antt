-- `values::elements::limits` meets its contract. Assumes nothing.
use Rattle.values.proofs.naming.OpenWays.{limit-deep, limit-many, limit-none}
use Rattle.values.proofs.elements.limits.Goals as goal

pub returns-then-left-eq0 : goal.returns-then-left-eq0
returns-then-left-eq0 c = let a = c.args in limit-deep a.left a.names c.if-left-eq0.true

pub returns-then-names-ge-MOST_NAMES : goal.returns-then-names-ge-MOST_NAMES
returns-then-names-ge-MOST_NAMES c = let a = c.args in limit-many a.left a.names c.if-left-eq0.false c.if-names-ge-MOST_NAMES.true

pub returns : goal.returns
returns c = let a = c.args in limit-none a.left a.names c.if-left-eq0.false c.if-names-ge-MOST_NAMES.false
