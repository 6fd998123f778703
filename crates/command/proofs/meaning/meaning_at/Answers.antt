-- `command::meaning::meaning_at` meets its contract. Assumes nothing.
use Rattle.std.proofs.Common.{sym, ne_eqb}
use Rattle.command.specs.Names.{code_of, decoded}
use Rattle.command.proofs.meaning.meaning_at.Goals as goal

pub returns-in-0 : goal.returns-in-0
unfolding code_of decoded
returns-in-0 c = rw (
  sym c.from.ensures,
  sym c.from-2.ensures,
  sym c.from-3.ensures,
  c.in-0.is,
)

pub returns-in-2 : goal.returns-in-2
unfolding code_of decoded
returns-in-2 c = rw (
  sym c.from.ensures,
  sym c.from-2.ensures,
  sym c.from-3.ensures,
  c.in-2.is,
)

pub returns-in-3 : goal.returns-in-3
unfolding code_of decoded
returns-in-3 c = rw (
  sym c.from.ensures,
  sym c.from-2.ensures,
  sym c.from-3.ensures,
  c.in-3.is,
)

pub returns-in-5 : goal.returns-in-5
unfolding code_of decoded
returns-in-5 c = rw (
  sym c.from.ensures,
  sym c.from-2.ensures,
  sym c.from-3.ensures,
  c.in-5.is,
)

pub returns-in_default : goal.returns-in_default
unfolding code_of decoded
returns-in_default c = rw (
  sym c.from.ensures,
  sym c.from-2.ensures,
  sym c.from-3.ensures,
  ne_eqb _ _
      c.in_default.in_default-own.rest.0.0.0.1,
  ne_eqb _ _ c.in_default.in_default-own.rest.0.0.1,
  ne_eqb _ _ c.in_default.in_default-own.rest.0.1,
  ne_eqb _ _ c.in_default.in_default-own.rest.1,
)
