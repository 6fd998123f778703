-- `compose::table` meets its contract: the source's constant is the list of specs/, number by number.
-- Assumes nothing.
use mathlib.Core.Path.{refl}
use Rattle.compose.specs.Lookup.{numbers}
use Rattle.compose.specs.Composites.{composites}
use Rattle.compose.proofs.table.Goals as goal

pub returns : goal.returns
unfolding numbers composites
returns c = refl
