-- `text::class::is_key` meets its contract. Assumes nothing.
use mathlib.Core.Bool.{or-false}
use Rattle.text.specs.Class.{is_key}
use Rattle.text.proofs.class.is_key.Goals as goal

pub returns : goal.returns
unfolding is_key
returns c = simp or-false (cc)
