-- `compose::compose` meets its contract: its table is the list's numbers, and halving in these is the lookup in the list.
-- Assumes nothing.
use mathlib.Core.Path.{ap, ◌∙◌}
use mathlib.Core.List.{List}
use Prim.Native.Nat.{ℕ}
use Rattle.compose.specs.Halving.{halved}
use Rattle.compose.proofs.Composition.{composition}
use Rattle.compose.proofs.compose.Goals as goal

pub returns : goal.returns
returns c =
    let a = c.args in
    c.find.ensures ∙ ap (λ (t : List ℕ). halved t a.letter a.mark) c.table-t.ensures ∙ composition.by-halving a.letter a.mark
