-- `fields::field::resolve_field` meets its contract. Assumes nothing.
use Prim.Native.Nat.{ℕ}
use mathlib.Core.Path.{ap, ◌∙◌}
use lib.ListN.{replicate}
use Rattle.fields.proofs.field.resolve_field.Goals as goal

pub returns : goal.returns
returns c = record {
  writes = c.field-r.ensures;
  scratch = c.wipe.ensures ∙ ap (λ (n : ℕ). replicate n 0) c.field-r.auto.scratch;
}
