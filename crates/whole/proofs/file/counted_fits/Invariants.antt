-- The invariants of `whole::file::counted_fits`.
use mathlib.Core.Path.{◌≡◌}
use lib.ListN.{length}
use Rattle.values.specs.Uses.{lent_in}
use Rattle.whole.specs.Filing.{BoundedTotals, CountedTo}
use Rattle.whole.proofs.file.counted_fits.Given as goal

-- the values of the rows before row i are counted
abbrev pub invariant-loop-i : goal.invariant-loop-i
invariant-loop-i l = (length l.scratch ≡ length l.initial.scratch) × BoundedTotals l.t × CountedTo (lent_in l.resolver) l.flags l.i l.t
