-- `raw::file::parse` meets its contract: it is a loop of turns. Assumes nothing.
use Rattle.raw.specs.Grammar.{file_turn, file}
use Rattle.raw.proofs.file.parse.Goals as goal

pub returns-clause-says : goal.returns-clause-says
unfolding file file_turn
returns-clause-says c = c.turns.ensures.says
