-- `casing::upper_table` meets its contract: the source's constant is the list of specs/, number by number.
-- Assumes nothing.
use Rattle.std.proofs.Common.{refl}
use Rattle.casing.specs.Mapping.{numbers}
use Rattle.casing.specs.Uppers.{uppers}
use Rattle.casing.proofs.upper_table.Goals as goal

pub returns : goal.returns
unfolding numbers uppers
returns c = refl
