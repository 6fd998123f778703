-- `whole::file::none` meets its contract. Assumes nothing.
use native.Mathlib.Omega.{arith}
use mathlib.Core.Path.{refl}
use Rattle.whole.proofs.counting.CountWays.{none-counted}
use Rattle.whole.proofs.file.none.Goals as goal

pub returns : goal.returns
returns c = (none-counted _ refl refl refl refl, record { rows = omega arith; bytes = omega arith }, refl, refl)
