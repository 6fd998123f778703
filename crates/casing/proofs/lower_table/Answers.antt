-- `casing::lower_table` meets its contract: the source's constant is the list of specs/, number by number.
-- Assumes nothing.
use Rattle.std.proofs.Common.{refl}
use Rattle.casing.specs.Mapping.{numbers}
use Rattle.casing.specs.Lowers.{lowers}
use Rattle.casing.proofs.lower_table.Goals as goal

pub returns : goal.returns
unfolding numbers lowers
returns c = refl
