-- `text::block::past_white` meets its contract. Assumes nothing.
use Rattle.text.proofs.scanning.Blocks.{clear_none}
use Rattle.text.proofs.block.past_white.Goals as goal

pub returns-else-s-at-le32 : goal.returns-else-s-at-le32
returns-else-s-at-le32 c = clear_none

pub returns-else-has : goal.returns-else-has
returns-else-has c = clear_none
