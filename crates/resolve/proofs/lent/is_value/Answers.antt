-- `resolve::lent::is_value` meets its contract. Assumes nothing.
use Rattle.resolve.proofs.lending.CheckWays.{value_none, value_there}
use Rattle.resolve.proofs.lent.is_value.Goals as goal

pub returns-then-rows-which : goal.returns-then-rows-which
returns-then-rows-which c = let a = c.args in value_none a.rows.now a.which c.if-rows-which.true

pub returns : goal.returns
returns c = let a = c.args in value_there a.rows.now a.which c.if-rows-which.false
