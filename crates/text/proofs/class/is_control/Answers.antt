-- `text::class::is_control` meets its contract. Assumes nothing.
use mathlib.Core.Bool.{or-false}
use Rattle.text.specs.Class.{control, is_control}
use Rattle.text.proofs.class.is_control.Goals as goal

pub returns : goal.returns
unfolding is_control control
returns c = simp or-false (cc)
