-- `command::execute::bare` meets its contract. Assumes nothing.
use Rattle.std.proofs.Common.{ne_eqb}
use Rattle.command.specs.Execute.{bare}
use Rattle.command.proofs.execute.bare.Goals as goal

pub returns-in-770 : goal.returns-in-770
unfolding bare
returns-in-770 c = rw c.in-770.is

pub returns-in-771 : goal.returns-in-771
unfolding bare
returns-in-771 c = rw c.in-771.is

pub returns-in_default : goal.returns-in_default
unfolding bare
returns-in_default c = rw (ne_eqb _ _ c.in_default.in_default-own.rest.0.1, ne_eqb _ _ c.in_default.in_default-own.rest.1)
