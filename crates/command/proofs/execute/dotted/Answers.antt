-- `command::execute::dotted` meets its contract. Assumes nothing.
use Rattle.std.proofs.Common.{ne_eqb}
use Rattle.command.specs.Execute.{dotted}
use Rattle.command.proofs.execute.dotted.Goals as goal

pub returns-in-305 : goal.returns-in-305
unfolding dotted
returns-in-305 c = rw c.in-305.is

pub returns-in-567 : goal.returns-in-567
unfolding dotted
returns-in-567 c = rw c.in-567.is

pub returns-in_default : goal.returns-in_default
unfolding dotted
returns-in_default c = rw (ne_eqb _ _ c.in_default.in_default-own.rest.0.1, ne_eqb _ _ c.in_default.in_default-own.rest.1)
