-- The invariants of `whole::file::surely_fits`.
use mathlib.Core.Path.{◌≡◌}
use lib.ListN.{length}
use Rattle.values.specs.Uses.{lent_in}
use Rattle.whole.specs.Filing.{BoundedTotals}
use Rattle.whole.specs.Bounds.{Covered}
use Rattle.whole.proofs.file.surely_fits.Given as goal

-- the values of the rows before row i come to no more than was counted
abbrev pub invariant-loop-i : goal.invariant-loop-i
invariant-loop-i l = (length l.scratch ≡ length l.initial.scratch) × BoundedTotals l.most × Covered (lent_in l.resolver) l.flags l.i l.most
