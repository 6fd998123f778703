-- Bounds of the place that a reader without rows answers. A refusal has no place, and keeps to any bounds.
--     file-place       a place of the text is a place of the file, inside its limit
--     step-exit        what the exit of a `?` answers, where the reader refuses
--     onward-from      bounds counted from an earlier place
-- Assumes nothing.
use Rattle.std.proofs.Common.{◌≡◌, sym, ap, ◌∙◌, subst, ℕ, ◌+◌, ◌≤◌, max, Result, Ok, Err, IsErrAnd, arith}
use Rattle.row.specs.declared.fault.Fault.{Fault}
use Rattle.raw.specs.Reader.{Out, bad}
use Rattle.row.specs.Limits.{most_bytes}
use Rattle.raw.specs.Says.{step_of, Onward, Ready}
use Rattle.raw.proofs.contracts.SaysLaws.{exit}

-- The check finds this where readers go on; it stands here because docs/PROOFS.md names it.
pub file-place : {base len p n q : ℕ} → Ready base len p n → q ≤ len → base + q ≤ most_bytes
file-place r h = omega arith

module _ (len w p : ℕ) where
  pub step-exit : {o : Out} {f : Fault} → o ≡ bad f → (r : Result ℕ Fault) → IsErrAnd r (λ g. g ≡ f) → (r ≡ step_of o) × Onward len w p r
  step-exit e r h = let d = exit r h in (d ∙ sym (ap step_of e), subst (Onward len w p) (sym d) tt)

  pub onward-from : (v q : ℕ) (r : Result ℕ Fault) → Onward len v q r → p + w ≤ q + v → q ≤ max p len → Onward len w p r
  onward-from v q (Ok x) h k l = (omega arith, omega arith)
  onward-from v q (Err f) h k l = tt
