-- `casing::is_settled` meets its contract. Assumes nothing.
use mathlib.Core.Bool.{or_assoc, or-false}
use Rattle.casing.specs.Casing.{settled, is_settled}
use Rattle.casing.proofs.is_settled.Goals as goal

pub returns : goal.returns
unfolding is_settled settled
returns c =
    simp (or_assoc, or-false)
    (rw (c.is_within.ensures, c.is_within-2.ensures, c.is_within-3.ensures, c.is_within-4.ensures, c.is_within-5.ensures)
    (rw (c.is_within-6.ensures, c.is_within-7.ensures, c.is_within-8.ensures, c.is_within-9.ensures)))
