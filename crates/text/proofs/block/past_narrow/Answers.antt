-- `text::block::past_narrow` meets its contract: by an answer, so that a fault in the set is refused for itself. Assumes nothing.
use Rattle.text.proofs.block.past_narrow.Goals as goal

pub returns : goal.returns
returns c = c.past_short.ensures
