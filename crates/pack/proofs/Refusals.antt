-- Which refusals packing and unpacking can answer, and their places: `refusals`.
-- Assumes nothing.
use Rattle.std.proofs.Common.{Result, Ok, Err, ℕ, ◌*◌, ◌/◌, ◌≤◌, ◌<◌, arith, ◌≡◌, refl, sym, ap, ◌∙◌, subst, ◌↔◌, Bool, true, false, List, length, replicate, leb, leb-false}
use Rattle.std.proofs.Common.{le-leb}
use lib.ListN.{length-replicate}
use borrow.Author.Tests.{lt-leb}
use Rattle.row.specs.declared.fault.Reason.TheVariants.{NoRoom, BadRows}
use Rattle.row.specs.declared.fault.Fault.{Fault}
use Rattle.row.specs.Fault.{number_of, nowhere, Answered}
use Rattle.pack.specs.Answer.{answer_of}
use Rattle.pack.specs.Pack.{is_packable, bytes_for, packed_of, packed_into, Pack}
use Rattle.pack.specs.Unpack.{is_unpackable, unpacked_of, unpacked_into, Unpack}
use Rattle.pack.specs.Refusals.{PackFault, full, bad-rows, Refusals}

fault-of : (x y : Bool) (n : ℕ) (f : Fault) → Err f ≡ answer_of x y n → PackFault f
fault-of true true n f e = cc
fault-of true false n f e = let q : nowhere NoRoom ≡ f = cc in subst PackFault q full
fault-of false y n f e = let q : nowhere BadRows ≡ f = cc in subst PackFault q bad-rows

-- ---- 16. The input is accepted or not, and n is how much its answer needs

module _ (accepted : Bool) (n : ℕ) where
  -- where 16 is answered, the input was accepted and x is less than n
  full-told : (x : ℕ) → answer_of accepted (leb n x) n ≡ Err (nowhere NoRoom) → (accepted ≡ true) × (x < n)
  full-told x = by accepted (leb n x) refl
    where
      by : (a b : Bool) → leb n x ≡ b → answer_of a b n ≡ Err (nowhere NoRoom) → (a ≡ true) × (x < n)
      by true true d e = cc
      by true false d e = (refl, leb-false n x d)
      by false b d e =
          let q : nowhere BadRows ≡ nowhere NoRoom = cc in
          let n : ◌≡◌ {A = ℕ} 17 16 = ap (λ (f : Fault). number_of f.reason) q in absurd (omega arith)

  -- where the input is accepted and n or more is lent, the answer is n
  enough : (x : ℕ) → accepted ≡ true → n ≤ x → Ok n ≡ answer_of accepted (leb n x) n
  enough x e h = rw (e, le-leb n x h)

  -- where m is the answer over enough room, 16 is the answer over less than m
  too-little : (x y m : ℕ) → Ok m ≡ answer_of accepted (leb n y) n → x < m → answer_of accepted (leb n x) n ≡ Err (nowhere NoRoom)
  too-little x y m = by accepted (leb n y)
    where
      by : (a b : Bool) → Ok m ≡ answer_of a b n → x < m → answer_of a (leb n x) n ≡ Err (nowhere NoRoom)
      by true true e h = let z : m ≡ n = cc in rw (lt-leb n x (omega arith))
      by true false e h = cc
      by false b e h = cc

packs-full : (l b b' : List ℕ) (r : Result ℕ Fault) → Pack l b r b' → (r ≡ Err (nowhere NoRoom)) ↔ ((n : ℕ) × Answered (Pack l) (Ok n) × (length b < n))
unfolding packed_of
packs-full l b b' r p = (
  λ e.
      let n = bytes_for (length l) in
      let t = full-told (is_packable l) n (length b) (sym p.answer ∙ e) in
      let c : List ℕ = replicate n 0 in
      let z : length c ≡ n = length-replicate n 0 in
      let k = enough (is_packable l) n (length c) t.0 (omega arith) in
      (n, (c, packed_into l c, record { answer = k; bytes = refl }), t.1),
  λ h. p.answer ∙ too-little (is_packable l) (bytes_for (length l)) (length b) (length h.1.0) h.0 h.1.2.answer h.2,
)

unpacks-full : (s b b' : List ℕ) (r : Result ℕ Fault) → Unpack s b r b' → (r ≡ Err (nowhere NoRoom)) ↔ ((n : ℕ) × Answered (Unpack s) (Ok n) × (length b / 4 < n))
unfolding unpacked_of
unpacks-full s b b' r p = (
  λ e.
      let n = length s / 7 in
      let t = full-told (is_unpackable s) n (length b / 4) (sym p.answer ∙ e) in
      let c : List ℕ = replicate (n * 4) 0 in
      let z : length c ≡ n * 4 = length-replicate (n * 4) 0 in
      let k = enough (is_unpackable s) n (length c / 4) t.0 (omega arith) in
      (n, (c, unpacked_into s c, record { answer = k; rows = refl }), t.1),
  λ h. p.answer ∙ too-little (is_unpackable s) (length s / 7) (length b / 4) (length h.1.0 / 4) h.0 h.1.2.answer h.2,
)

pub refusals : Refusals
unfolding packed_of unpacked_of
refusals =
    record {
      packs = λ l b b' f r. fault-of (is_packable l) (leb (bytes_for (length l)) (length b)) (bytes_for (length l)) f r.answer;
      unpacks = λ s b b' f r. fault-of (is_unpackable s) (leb (length s / 7) (length b / 4)) (length s / 7) f r.answer;
      packs-full = packs-full;
      unpacks-full = unpacks-full;
    }
