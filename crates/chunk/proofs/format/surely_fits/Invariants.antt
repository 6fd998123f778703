-- The invariants of `chunk::format::surely_fits`.
use Rattle.std.proofs.Common.{◌≤◌}
use Rattle.chunk.proofs.passes.Bounds as laws
use Rattle.chunk.proofs.format.surely_fits.Given as goal

abbrev pub invariant-loop-i : goal.invariant-loop-i
invariant-loop-i l = laws.Fitting l.times l.rows l.n l.i × (l.n ≤ l.room)
