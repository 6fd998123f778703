-- `turn::turn::by_blocks` meets its contract. Assumes nothing.
use Rattle.turn.proofs.ways.SimpleBytes.{plain-none}
use Rattle.turn.proofs.turn.by_blocks.Goals as goal

pub returns-else-is_simple : goal.returns-else-is_simple
returns-else-is_simple c = plain-none _ _

pub returns-else-at-s : goal.returns-else-at-s
returns-else-at-s c = plain-none _ _
