-- `row::check::begun` meets its contract. Assumes nothing.
use mathlib.Core.Path.{sym, ap, ◌∙◌}
use Rattle.row.specs.Numbers.{state_of}
use Rattle.row.proofs.rules.CheckTurns.{begun-field, begun-else}
use Rattle.row.proofs.check.begun.Goals as goal

pub returns-in-0 : goal.returns-in-0
returns-in-0 c = rw c.in-0.is

pub returns-in-1 : goal.returns-in-1
returns-in-1 c = rw c.in-1.is

pub returns-in-4 : goal.returns-in-4
returns-in-4 c = c.or_wrong.ensures ∙ rw c.in-4.is (begun-field c.args.field)

pub returns-in-8 : goal.returns-in-8
returns-in-8 c = rw c.in-8.is

pub returns-in-9 : goal.returns-in-9
returns-in-9 c = rw c.in-9.is

pub returns-in_default : goal.returns-in_default
returns-in_default c =
    let r = c.in_default.in_default-own.rest in
    sym (ap state_of (begun-else _ _ r.0.0.0.0.1 r.0.0.0.1 r.0.0.1 r.0.1 r.1))
