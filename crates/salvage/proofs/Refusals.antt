-- Which refusals salvage can answer, and their places: `refusals`.
-- Assumes nothing.
use Rattle.std.proofs.Common.{ℕ, arith, ◌≡◌, refl, ap, subst, ⊎_elim, Bool, true, false, cond, List, length, leb}
use Rattle.row.specs.declared.fault.Reason.TheVariants.{TooLong, NoRoom}
use Rattle.row.specs.declared.fault.Fault.{Fault}
use Rattle.row.specs.Fault.{number_of, nowhere}
use Rattle.raw.specs.Reader.{ok, bad}
use Rattle.row.specs.Limits.{most_bytes}
use Rattle.raw.proofs.Refusals.{own-or-full, sixteen}
use Rattle.salvage.specs.Salvage.{salvage_of, salvaged, Salvage}
use Rattle.salvage.specs.Refusals.{SalvageFault, long, full, Refusals}

-- salvage's own refusal is that of a file too long
long-fault : (s : List ℕ) (f : Fault) → salvaged s ≡ bad f → SalvageFault f
unfolding salvaged
long-fault s f = by (leb (length s) most_bytes)
  where
    by : (x : Bool) → cond x (ok (length s) (salvage_of s)) (bad (nowhere TooLong)) ≡ bad f → SalvageFault f
    by true e = cc
    by false e = let q : nowhere TooLong ≡ f = cc in subst SalvageFault q long

-- that refusal is not 16
salvaged-not-full : (s : List ℕ) → salvaged s ≡ bad (nowhere NoRoom) → ⊥
unfolding salvaged
salvaged-not-full s = by (leb (length s) most_bytes)
  where
    by : (x : Bool) → cond x (ok (length s) (salvage_of s)) (bad (nowhere TooLong)) ≡ bad (nowhere NoRoom) → ⊥
    by true e = cc
    by false e =
        let q : nowhere TooLong ≡ nowhere NoRoom = cc in
        let n : ◌≡◌ {A = ℕ} 1 16 = ap (λ (f : Fault). number_of f.reason) q in absurd (omega arith)

pub refusals : Refusals
refusals =
    record {
      salvages = λ s b b' f r. ⊎_elim (long-fault s f) (λ q. subst SalvageFault q full) (own-or-full (salvaged s) (length b) f r.answer);
      no_room = λ s. sixteen (salvaged s) (salvaged-not-full s) (Salvage s) (λ b b' r p. p.answer) (λ b. record { answer = refl; rows = refl });
    }
