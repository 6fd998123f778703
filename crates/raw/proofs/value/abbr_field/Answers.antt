-- `raw::value::abbr_field` meets its contract: its elements are a loop of turns. Assumes nothing.
use Rattle.std.proofs.Common.{ap}
use Rattle.row.specs.declared.form.Kind.TheVariants as kind
use Rattle.row.specs.Row.{row}
use Rattle.raw.specs.Reader.{under}
use Rattle.raw.specs.Grammar.{abbr_turn, abbr_field}
use Rattle.raw.proofs.contracts.SaysLaws.{said-off, says-exit, says-under}
use Rattle.raw.proofs.value.abbr_field.Goals as goal

pub returns-in_err-q-clause-says : goal.returns-in_err-q-clause-says
unfolding abbr_field abbr_turn
returns-in_err-q-clause-says c =
    says-exit (ap (under (row kind.Value c.args.at)) (said-off c.in_err-q.ensures.says)) c.from_residual.result c.from_residual.ensures.1

pub returns-clause-says : goal.returns-clause-says
unfolding abbr_field abbr_turn
returns-clause-says c = rw c.put_row.ensures (says-under kind.Value c.args.at c.in_ok-q.ensures.says)
