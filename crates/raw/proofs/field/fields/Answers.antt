-- `raw::field::fields` meets its contract: it is a loop of turns. Assumes nothing.
use Rattle.raw.specs.Grammar.{fields_turn, fields}
use Rattle.raw.proofs.field.fields.Goals as goal

pub returns-clause-says : goal.returns-clause-says
unfolding fields fields_turn
returns-clause-says c = c.turns.ensures.says
