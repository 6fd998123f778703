-- `resolve::progress::begin` meets its contract. Assumes nothing.
use native.Mathlib.Omega.{arith}
use mathlib.Core.Path.{refl}
use Rattle.resolve.proofs.appending.AppendWays.{begun}
use Rattle.resolve.proofs.progress.begin.Goals as goal

pub returns : goal.returns
returns c = (λ b t. begun _ b t refl refl (c.none.ensures.by_index b), record { bytes = omega arith; rows = omega (arith, c.none.ensures.n_value); names = omega arith }, refl)
