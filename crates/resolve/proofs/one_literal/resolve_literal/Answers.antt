-- `resolve::one_literal::resolve_literal` meets its contract. Assumes nothing.
use Prim.Native.Nat.{ℕ}
use mathlib.Core.Path.{ap, ◌∙◌}
use lib.ListN.{replicate}
use Rattle.resolve.proofs.one_literal.resolve_literal.Goals as goal

pub returns : goal.returns
returns c = record {
  writes = c.literal-r.ensures;
  scratch = c.wipe.ensures ∙ ap (λ (n : ℕ). replicate n 0) c.literal-r.auto.scratch;
}
