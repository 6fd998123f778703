-- `row::mask::is_whole` meets its contract. Assumes nothing.
use mathlib.Core.Path.{refl}
use Rattle.row.specs.Masks.{ends_of}
use Rattle.row.proofs.mask.is_whole.Goals as goal

pub returns : goal.returns
unfolding ends_of
returns c = refl
