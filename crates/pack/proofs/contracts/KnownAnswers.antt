-- What the contracts of `pack` and `unpack` say where the answer is a count.
--     pack-told, unpack-told       what is known where the answer is a count
--     pack-gives, unpack-gives     where the answer must be a count, and which
-- Assumes nothing.
use Rattle.std.proofs.Common.{Result, Ok, ℕ, ◌*◌, ◌/◌, ◌≤◌, ◌≡◌, refl, sym, ◌∙◌, Bool, true, false, List, ◌++◌, length, drop, leb, leb-true}
use Rattle.row.specs.declared.fault.Fault.{Fault}
use Rattle.row.specs.Row.{flat}
use Rattle.row.specs.Numbers.{rows_of}
use Rattle.pack.specs.Seven.{packing, unpacking}
use Rattle.pack.specs.Answer.{answer_of}
use Rattle.pack.specs.Pack.{is_packable, bytes_for, packed_of, packed_into, Pack}
use Rattle.pack.specs.Unpack.{is_unpackable, unpacked_of, unpacked_into, Unpack}
use Rattle.pack.proofs.contracts.Answers.{pack-done, unpack-done}

count-told : (x y : Bool) (m n : ℕ) → Ok n ≡ answer_of x y m → (x ≡ true) × (y ≡ true) × (n ≡ m)
count-told true true m n e = (refl, refl, cc)
count-told true false m n e = cc
count-told false y m n e = cc

pub record PackTold (l b : List ℕ) (n : ℕ) (b' : List ℕ) : Type 0 where
  pub fits : is_packable l ≡ true
  pub size : n ≡ bytes_for (length l)
  pub room : bytes_for (length l) ≤ length b
  pub left : b' ≡ packing (rows_of l) ++ drop n b

pub pack-told : (l b b' : List ℕ) (n : ℕ) → Pack l b (Ok n) b' → PackTold l b n b'
unfolding packed_of packed_into
pack-told l b b' n p =
    let t = count-told (is_packable l) (leb (bytes_for (length l)) (length b)) (bytes_for (length l)) n p.answer in
    record { fits = t.0; size = t.2; room = leb-true (bytes_for (length l)) (length b) t.1; left = p.bytes ∙ rw (t.0, t.1, t.2) }

pub pack-gives : (l b b' : List ℕ) (r : Result ℕ Fault) → is_packable l ≡ true → bytes_for (length l) ≤ length b → Pack l b r b'
    → (r ≡ Ok (bytes_for (length l))) × (b' ≡ packing (rows_of l) ++ drop (bytes_for (length l)) b)
pack-gives l b b' r e h p = let d = pack-done l b e h _ refl in (p.answer ∙ sym d.answer, p.bytes ∙ sym d.bytes)

pub record UnpackTold (s b : List ℕ) (n : ℕ) (b' : List ℕ) : Type 0 where
  pub fits : is_unpackable s ≡ true
  pub size : n ≡ length s / 7
  pub room : length s / 7 ≤ length b / 4
  pub left : b' ≡ flat (unpacking s) ++ drop (n * 4) b

pub unpack-told : (s b b' : List ℕ) (n : ℕ) → Unpack s b (Ok n) b' → UnpackTold s b n b'
unfolding unpacked_of unpacked_into
unpack-told s b b' n p =
    let t = count-told (is_unpackable s) (leb (length s / 7) (length b / 4)) (length s / 7) n p.answer in
    record { fits = t.0; size = t.2; room = leb-true (length s / 7) (length b / 4) t.1; left = p.rows ∙ rw (t.0, t.1, t.2) }

pub unpack-gives : (s b b' : List ℕ) (r : Result ℕ Fault) → is_unpackable s ≡ true → length s / 7 ≤ length b / 4 → Unpack s b r b'
    → (r ≡ Ok (length s / 7)) × (b' ≡ flat (unpacking s) ++ drop (length s / 7 * 4) b)
unpack-gives s b b' r e h p = let d = unpack-done s b e h _ refl in (p.answer ∙ sym d.answer, p.rows ∙ sym d.rows)
