-- `text::block::place` meets its contract. Assumes nothing.
use Rattle.std.proofs.Common.{arith}
use Rattle.text.proofs.block.place.Goals as goal

pub returns : goal.returns
returns c = λ h. omega arith
