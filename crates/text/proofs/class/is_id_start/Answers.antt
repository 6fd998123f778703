-- `text::class::is_id_start` meets its contract. Assumes nothing.
use mathlib.Core.Bool.{or_assoc, or-false}
use Rattle.text.specs.Class.{is_id_start}
use Rattle.text.proofs.class.is_id_start.Goals as goal

pub returns : goal.returns
unfolding is_id_start
returns c = simp (or_assoc, or-false) (cc)
