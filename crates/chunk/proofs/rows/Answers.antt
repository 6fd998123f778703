-- What the check and the writers answer.
--     ill-formed, bad-rows, passed    what the check answers
--     are-chunks                      what is so where the check passes
--     refused, no_room, wrote         what a writer answers, by the check's answer and by what its passes come to
--     all-fits                        a text fits where a pass over it comes no farther than the room
--     written                         what a writer has written
-- Assumes nothing.
use Rattle.std.proofs.Common.{ℕ, ◌≤◌, ◌<◌, arith, ◌≡◌, refl, sym, ap, subst, ◌∙◌, Bool, true, false, cond, List, ◌++◌, length, take, drop, take_at, leb, le-leb}
use Rattle.text.specs.declared.utf8.IllFormed.{IllFormed}
use Rattle.std.specs.Prelude.{Result, Ok, Err, ⊤}
use borrow.Author.Tests.{lt-leb}
use Rattle.text.specs.Utf8.{validity_of}
use Rattle.row.specs.declared.fault.Reason.TheVariants.{NotUtf8, NoRoom, BadRows}
use Rattle.row.specs.declared.fault.Fault.{Fault}
use Rattle.row.specs.Fault.{fault_at, nowhere}
use Rattle.chunk.specs.Chunk.{are_chunks}
use Rattle.chunk.specs.Put.{Fills}
use Rattle.chunk.specs.Write.{rows_checked, checked_of, Write}
use Rattle.chunk.proofs.texts.Puts.{sets-fits}

-- ---- the check

pub ill-formed : (t l : List ℕ) (n : ℕ) → validity_of t ≡ Err (record { at = n }) → Err (fault_at NotUtf8 n) ≡ checked_of t l
unfolding checked_of
ill-formed t l n e = sym (ap (rows_checked t l) e)

pub passed : (t l : List ℕ) → validity_of t ≡ Ok tt → are_chunks t l ≡ true → Ok tt ≡ checked_of t l
unfolding checked_of
passed t l e h = sym (ap (rows_checked t l) e ∙ rw h refl)

pub bad-rows : (t l : List ℕ) → validity_of t ≡ Ok tt → are_chunks t l ≡ false → Err (nowhere BadRows) ≡ checked_of t l
unfolding checked_of
bad-rows t l e h = sym (ap (rows_checked t l) e ∙ rw h refl)

both-passed : (t l : List ℕ) (v : Result ⊤ IllFormed) → Ok tt ≡ rows_checked t l v → (v ≡ Ok tt) × (are_chunks t l ≡ true)
both-passed t l (Ok _) e = (refl, by (are_chunks t l) e)
  where
    by : (x : Bool) → ◌≡◌ {A = Result ⊤ Fault} (Ok tt) (cond x (Ok tt) (Err (nowhere BadRows))) → x ≡ true
    by true e = refl
    by false e = let z : ◌≡◌ {A = ℕ} 0 1 = cc in absurd (omega arith)
both-passed t l (Err n) e = let z : ◌≡◌ {A = ℕ} 0 1 = cc in absurd (omega arith)

pub are-chunks : (t l : List ℕ) → checked_of t l ≡ Ok tt → (validity_of t ≡ Ok tt) × (are_chunks t l ≡ true)
unfolding checked_of
are-chunks t l e = both-passed t l (validity_of t) (sym e)

-- ---- a writer

-- a pass that comes no farther than the room shows that the whole text fits
pub all-fits : {w : List ℕ} {room : ℕ} {o : List ℕ} {r : ℕ} {o' : List ℕ} → Fills w room o r o' → r ≤ room → length w ≤ room
all-fits f h = omega (arith, (f.whole h).0)

module _ {c : Result ⊤ Fault} {w b : List ℕ} where
  pub refused : {f : Fault} → c ≡ Err f → Write c w b (Err f) b
  refused {f} e = subst (λ (x : Result ⊤ Fault). Write x w b (Err f) b) (sym e) (record { answer = refl; bytes = refl })

  -- a pass came past the room
  pub no_room : {r : ℕ} {o o' : List ℕ} → c ≡ Ok tt → Fills w (length b) o r o' → length b < r →
      Write c w b (Err (nowhere NoRoom)) b
  no_room e f h =
      let few = lt-leb (length w) (length b) (omega (arith, f.inside)) in
      subst (λ (x : Result ⊤ Fault). Write x w b (Err (nowhere NoRoom)) b) (sym e) (record { answer = rw few refl; bytes = rw few refl })

  pub wrote : {r : ℕ} {b' : List ℕ} → c ≡ Ok tt → length w ≤ length b → Fills w (length b) b r b' → Write c w b (Ok r) b'
  wrote {r} {b'} e l f =
      let full = f.whole (omega (arith, f.inside)) in
      let enough = le-leb (length w) (length b) l in
      subst (λ (x : Result ⊤ Fault). Write x w b (Ok r) b') (sym e)
      (record { answer = rw enough (ap Ok full.0); bytes = full.1 ∙ sets-fits w b l ∙ rw enough refl })

pub written : (c : Result ⊤ Fault) {w b b' : List ℕ} {n : ℕ} → Write c w b (Ok n) b' → (c ≡ Ok tt) × (take n b' ≡ w)
written (Err f) h = let e = h.answer in let z : ◌≡◌ {A = ℕ} 0 1 = cc in absurd (omega arith)
written (Ok _) {w} {b} {b'} {n} h = (refl, by (leb (length w) (length b)) h.answer h.bytes)
  where
    by : (x : Bool) → Ok n ≡ cond x (Ok (length w)) (Err (nowhere NoRoom)) →
        b' ≡ cond x (w ++ drop (length w) b) b → take n b' ≡ w
    by true e q = let m : length w ≡ n = cc in ap (take n) q ∙ take_at w (drop (length w) b) n m
    by false e q = let z : ◌≡◌ {A = ℕ} 0 1 = cc in absurd (omega arith)
