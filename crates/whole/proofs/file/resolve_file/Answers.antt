-- `whole::file::resolve_file` meets its contract. Assumes nothing.
use Prim.Native.Nat.{ℕ}
use mathlib.Core.Path.{ap, ◌∙◌}
use lib.ListN.{replicate}
use Rattle.whole.proofs.file.resolve_file.Goals as goal

pub returns : goal.returns
returns c = record {
  writes = c.whole-r.ensures;
  scratch = c.wipe.ensures ∙ ap (λ (n : ℕ). replicate n 0) c.whole-r.auto.scratch;
  heads = c.clear.ensures ∙ ap (λ (n : ℕ). replicate n 0) c.whole-r.auto.heads;
  next = c.clear-2.ensures ∙ ap (λ (n : ℕ). replicate n 0) c.whole-r.auto.next;
}
