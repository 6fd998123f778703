-- Which refusals the writers can answer, and their places: `refusals`.
-- Assumes nothing.
use Rattle.std.proofs.Common.{ℕ, ◌<◌, arith, ◌≡◌, refl, sym, ap, ◌∙◌, subst, ◌↔◌, Bool, true, false, cond, List, length, replicate, leb, leb-false, le-leb}
use Rattle.text.specs.declared.utf8.IllFormed.{IllFormed}
use Rattle.std.specs.Prelude.{Result, Ok, Err, ⊤}
use lib.ListN.{length-replicate}
use borrow.Author.Tests.{lt-leb}
use Rattle.text.specs.Utf8.{validity_of}
use Rattle.row.specs.declared.fault.Reason.TheVariants.{NotUtf8, NoRoom, BadRows}
use Rattle.row.specs.declared.fault.Fault.{Fault}
use Rattle.row.specs.Fault.{number_of, fault_at, nowhere, Answered}
use Rattle.chunk.specs.Chunk.{are_chunks, chunks_of}
use Rattle.chunk.specs.Format.{format_verbatim, to_biblatex_string}
use Rattle.chunk.specs.Sentence.{format_sentence}
use Rattle.chunk.specs.Write.{rows_checked, checked_of, writing_of, written_into, Write}
use Rattle.chunk.specs.Refusals.{WriteFault, ill-formed, bad-chunks, full, Refusals}

module _ (t l w : List ℕ) (n : ℕ) (f : Fault) where
  by-room : (y : Bool) → Err f ≡ cond y (Ok (length w)) (Err (nowhere NoRoom)) → WriteFault t l f
  by-room true e = let z : ◌≡◌ {A = ℕ} 0 1 = cc in absurd (omega arith)
  by-room false e = let q : nowhere NoRoom ≡ f = cc in subst (WriteFault t l) q full

  by_rows : (x : Bool) → are_chunks t l ≡ x → Err f ≡ writing_of (cond x (Ok tt) (Err (nowhere BadRows))) w n →
      WriteFault t l f
  by_rows true p e = by-room (leb (length w) n) e
  by_rows false p e = let q : nowhere BadRows ≡ f = cc in subst (WriteFault t l) q (bad-chunks p)

  by-text : (v : Result ⊤ IllFormed) → validity_of t ≡ v → Err f ≡ writing_of (rows_checked t l v) w n → WriteFault t l f
  by-text (Ok _) p e = by_rows (are_chunks t l) refl e
  by-text (Err m) p e = let q : fault_at NotUtf8 m.at ≡ f = cc in subst (WriteFault t l) q (ill-formed m.at p)

write-fault : (t l w : List ℕ) (n : ℕ) (f : Fault) → Err f ≡ writing_of (checked_of t l) w n → WriteFault t l f
unfolding checked_of
write-fault t l w n f e = by-text t l w n f (validity_of t) refl e

-- ---- 16

-- the check never answers 16
check-not-full : (t l : List ℕ) (v : Result ⊤ IllFormed) → rows_checked t l v ≡ Err (nowhere NoRoom) → ⊥
check-not-full t l (Ok _) e = by (are_chunks t l) e
  where
    by : (x : Bool) → cond {A = Result ⊤ Fault} x (Ok tt) (Err (nowhere BadRows)) ≡ Err (nowhere NoRoom) → ⊥
    by true e = let z : ◌≡◌ {A = ℕ} 0 1 = cc in absurd (omega arith)
    by false e = let q : nowhere BadRows ≡ nowhere NoRoom = cc in let n : ◌≡◌ {A = ℕ} 17 16 = ap (λ (f : Fault). number_of f.reason) q in absurd (omega arith)
check-not-full t l (Err m) e =
    let q : fault_at NotUtf8 m.at ≡ nowhere NoRoom = cc in let n : ◌≡◌ {A = ℕ} 2 16 = ap (λ (f : Fault). number_of f.reason) q in absurd (omega arith)

-- a writer that has w to write, and whose check answers c
module _ (w : List ℕ) where
  full-told : (c : Result ⊤ Fault) → (c ≡ Err (nowhere NoRoom) → ⊥) → (x : ℕ) → writing_of c w x ≡ Err (nowhere NoRoom) →
      (c ≡ Ok tt) × (x < length w)
  full-told (Ok _) other x e = by (leb (length w) x) refl e
    where
      by : (y : Bool) → leb (length w) x ≡ y → cond y (Ok (length w)) (Err (nowhere NoRoom)) ≡ Err (nowhere NoRoom) →
          (◌≡◌ {A = Result ⊤ Fault} (Ok tt) (Ok tt)) × (x < length w)
      by true d e = let z : ◌≡◌ {A = ℕ} 0 1 = cc in absurd (omega arith)
      by false d e = (refl, leb-false (length w) x d)
  full-told (Err f) other x e = let z : f ≡ nowhere NoRoom = cc in absurd (other (ap Err z))

  too-little : (c : Result ⊤ Fault) (x y m : ℕ) → Ok m ≡ writing_of c w y → x < m → writing_of c w x ≡ Err (nowhere NoRoom)
  too-little (Ok _) x y m e h = by (leb (length w) y) e h
    where
      by : (z : Bool) → Ok m ≡ cond z (Ok (length w)) (Err (nowhere NoRoom)) → x < m →
          writing_of (Ok tt) w x ≡ Err (nowhere NoRoom)
      by true e h = let z : m ≡ length w = cc in rw (lt-leb (length w) x (omega arith))
      by false e h = let z : ◌≡◌ {A = ℕ} 0 1 = cc in absurd (omega arith)
  too-little (Err f) x y m e h = let z : ◌≡◌ {A = ℕ} 0 1 = cc in absurd (omega arith)

  write-full : (c : Result ⊤ Fault) → (c ≡ Err (nowhere NoRoom) → ⊥) → (b b' : List ℕ) (r : Result ℕ Fault) → Write c w b r b' →
      (r ≡ Err (nowhere NoRoom)) ↔ ((n : ℕ) × Answered (Write c w) (Ok n) × (length b < n))
  write-full c other b b' r p = (
    λ e.
        let t = full-told c other (length b) (sym p.answer ∙ e) in
        let d : List ℕ = replicate (length w) 0 in
        let l : length d ≡ length w = length-replicate (length w) 0 in
        let k : Ok (length w) ≡ writing_of c w (length d) = rw (t.0, le-leb (length w) (length d) (omega arith)) in
        (length w, (d, written_into c w d, record { answer = k; bytes = refl }), t.1),
    λ h. p.answer ∙ too-little c (length b) (length h.1.0) h.0 h.1.2.answer h.2,
  )

not_full : (t l : List ℕ) → checked_of t l ≡ Err (nowhere NoRoom) → ⊥
unfolding checked_of
not_full t l e = check-not-full t l (validity_of t) e

pub refusals : Refusals
refusals = record {
  formats = λ t l b b' f r. write-fault t l (format_verbatim (chunks_of t l)) (length b) f r.answer;
  writes = λ verb t l b b' f r. write-fault t l (to_biblatex_string verb (chunks_of t l)) (length b) f r.answer;
  sentences = λ t l b b' f r. write-fault t l (format_sentence (chunks_of t l)) (length b) f r.answer;
  formats-full = λ t l. write-full (format_verbatim (chunks_of t l)) (checked_of t l) (not_full t l);
  writes-full = λ verb t l. write-full (to_biblatex_string verb (chunks_of t l)) (checked_of t l) (not_full t l);
  sentences-full = λ t l. write-full (format_sentence (chunks_of t l)) (checked_of t l) (not_full t l);
}
