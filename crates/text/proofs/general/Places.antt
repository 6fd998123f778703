-- A text from a place on, octet by octet.
--     drop-next, drop_more        the text from a place on begins with the octet at that place
--     part-clamped                a part, cut out at places that were first moved into the text
--     boundary-in, boundary-out   whether a place is a boundary: inside the text, and from its end on
--     value-one, .. value-four    the code point of the one to four octets at a place
-- Assumes nothing.
use mathlib.Core.Path.{◌≡◌, refl, sym, ap, ◌∙◌}
use mathlib.Core.List.{List, [], ◌∷◌}
use Prim.Native.Nat.{ℕ, zero, suc, ◌+◌, ◌-◌, ◌*◌, ◌%◌, ◌<◌, ◌≤◌, min}
use native.Mathlib.Omega.{arith}
use native.Mathlib.Numerals.{add-one}
use lib.ListN.{length, get_or, take, drop}
use lib.Seq.{drop-cons}
use mathlib.Core.Bool.{Bool, true, false, not, ◌&&◌}
use lib.ListN.{get_or-eq_default}
use lib.Dec.{eqb, leb, ltb}
use borrow.Author.Tests.{eqb-true, eqb-false, le-leb, lt-leb, ltb-true, ltb-false}
use Rattle.text.specs.Range.{within}
use Rattle.text.specs.Scan.{part}
use Rattle.text.specs.Utf8.{tail, gather, value, is_boundary}

pub drop-next : (s : List ℕ) (i : ℕ) → i < length s → drop i s ≡ get_or s i 0 ∷ drop (i + 1) s
drop-next s i h = drop-cons s i 0 h ∙ ap (λ (n : ℕ). get_or s i 0 ∷ drop n s) (sym (add-one i))

pub drop_more : (s : List ℕ) (i k j : ℕ) → i + k < length s → k + 1 ≡ j → drop (i + k) s ≡ get_or s (i + k) 0 ∷ drop (i + j) s
drop_more s i k j h e = drop-next s (i + k) h ∙ ap (λ (n : ℕ). get_or s (i + k) 0 ∷ drop n s) (same e)
  where
    same : k + 1 ≡ j → i + k + 1 ≡ i + j
    same e = omega arith

-- inside a list it does not matter which default `get_or` is given
get_d_any : (s : List ℕ) (i d e : ℕ) → i < length s → get_or s i d ≡ get_or s i e
get_d_any [] i d e h = absurd (omega arith)
get_d_any (b ∷ s) zero d e h = refl
get_d_any (b ∷ s) (suc i) d e h = get_d_any s i d e (omega arith)

pub boundary-in : (s : List ℕ) (n : ℕ) → n < length s → not (within tail (get_or s n 0)) ≡ is_boundary s n
unfolding is_boundary
boundary-in s n h = rw (le-leb n (length s) (omega arith), get_d_any s n 0 256 h)

pub boundary-out : (s : List ℕ) (n : ℕ) → length s ≤ n → eqb n (length s) ≡ is_boundary s n
unfolding is_boundary
boundary-out s n h = go (eqb n (length s)) refl
  where
    go : (t : Bool) → eqb n (length s) ≡ t → t ≡ (leb n (length s) && not (within tail (get_or s n 256)))
    go true e =
        let q : n ≡ length s = eqb-true n (length s) e in rw (le-leb n (length s) (omega arith), get_or-eq_default s 256 h)
    go false e =
        let l : length s < n = omega (arith, eqb-false n (length s) e) in rw (lt-leb n (length s) l)

pub part-clamped : (s : List ℕ) (a e : ℕ) {n m : ℕ} → n ≡ min e (length s) → m ≡ min a n → take (n - m) (drop m s) ≡ part s a e
part-clamped s a e {n} {m} p q = go (ltb n a) refl
  where
    go : (t : Bool) → ltb n a ≡ t → take (n - m) (drop m s) ≡ part s a e
    go true x =
        let l = ltb-true n a x in
        let u : n - m ≡ 0 = omega arith in
        let v : min e (length s) - a ≡ 0 = omega arith in rw (u, v)
    go false x = let l = ltb-false n a x in let u : m ≡ a = omega arith in rw (u, p)

module _ (s : List ℕ) (i n : ℕ) (room : i + n ≤ length s) where
  pub value-one : n ≡ 1 → value (take n (drop i s)) ≡ get_or s i 0 % 128
  unfolding value gather
  value-one e = rw (e, drop-next s i (omega arith))

  pub value-two : n ≡ 2 → value (take n (drop i s)) ≡ get_or s i 0 % 32 * 64 + get_or s (i + 1) 0 % 64
  unfolding value gather
  value-two e = rw (e, drop-next s i (omega arith), drop_more s i 1 2 (omega arith) refl)

  pub value-three : n ≡ 3 → value (take n (drop i s)) ≡ (get_or s i 0 % 16 * 64 + get_or s (i + 1) 0 % 64) * 64 + get_or s (i + 2) 0 % 64
  unfolding value gather
  value-three e = rw (e, drop-next s i (omega arith), drop_more s i 1 2 (omega arith) refl, drop_more s i 2 3 (omega arith) refl)

  pub value-four : n ≡ 4 →
      value (take n (drop i s)) ≡ ((get_or s i 0 % 8 * 64 + get_or s (i + 1) 0 % 64) * 64 + get_or s (i + 2) 0 % 64) * 64 + get_or s (i + 3) 0 % 64
  unfolding value gather
  value-four e =
      rw (
        e,
        drop-next s i (omega arith),
        drop_more s i 1 2 (omega arith) refl,
        drop_more s i 2 3 (omega arith) refl,
        drop_more s i 3 4 (omega arith) refl,
      )
