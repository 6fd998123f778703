-- What the scanner sees where a text stands in a longer one.
--     see-ahead               a character ends after its place, and inside the text
--     see-up                  behind another text the scanner sees the same, at places moved by that text's length
--     see-front               where another text follows that does not begin with a tail, the scanner sees the same
-- Assumes nothing.
use Rattle.std.specs.Prelude.{Some}
use Prim.Native.Nat.{ℕ, zero, suc, ◌+◌, ◌≤◌, ◌<◌}
use mathlib.Core.Path.{◌≡◌, refl, sym, ap, ◌∙◌, subst}
use mathlib.Core.Bool.{Bool, true, false}
use mathlib.Core.List.{List, [], ◌∷◌, ◌++◌, append_assoc}
use native.Mathlib.Omega.{arith}
use native.Mathlib.Nat.{add_comm}
use lib.ListN.{length, get_or, take, drop, length-append, length-drop, take-append-drop}
use lib.Seq.{drop-append-add, drop-append-le, take-append-le, get_or-take, get_or-append-add, length-take-le}
use lib.Dec.{leb}
use borrow.Author.Tests.{leb-true, leb-false}
use Rattle.text.specs.Range.{within}
use Rattle.text.specs.Utf8.{tail, is_char, width}
use Rattle.text.specs.Scan.{code, rest, see_from, see, Inside}
use Rattle.text.specs.Seeing.{seen_up}
use Rattle.text.proofs.sequences.Alternatives.{width-char, char-width}
use Rattle.text.proofs.sequences.Lengths.{char-further, width-inside}
use Rattle.text.proofs.scanning.Seen.{see-at, see-inside}

-- a character ends after its place, and inside the text
pub see-ahead : (s : List ℕ) (p c n : ℕ) → see s p ≡ Some (c, n) → (p < n) × (n ≤ length s)
see-ahead s p c n e = subst (Inside s p) e (see-inside s p)

-- ---- behind another text

from_up : (u : List ℕ) (p d : ℕ) → see_from u (p + d) ≡ seen_up d (see_from u p)
unfolding see_from
from_up [] p d = refl
from_up (b ∷ u) p d = ap (λ (n' : ℕ). Some ((code (b ∷ u)), n')) (omega arith)

pub see-up : (a s : List ℕ) (p : ℕ) → see (a ++ s) (p + length a) ≡ seen_up (length a) (see s p)
see-up a s p =
    ap (λ (u : List ℕ). see_from u (p + length a)) (ap (λ (n : ℕ). drop n (a ++ s)) (add_comm p (length a)) ∙ drop-append-add a s p)
    ∙ from_up (drop p s) p (length a)

-- ---- the sequence that a text begins with, where more text follows

-- a text that begins with a sequence begins with it also where more text follows
width-more : (u t : List ℕ) (n : ℕ) → width u ≡ suc n → width (u ++ t) ≡ suc n
width-more u t n e =
    let k = rw e at (width-char u (omega arith)) in
    let f : take (suc n) u ++ (drop (suc n) u ++ t) ≡ u ++ t =
    sym (append_assoc (take (suc n) u) (drop (suc n) u) t) ∙ ap (λ (v : List ℕ). v ++ t) (take-append-drop (suc n) u) in
    sym (ap width f) ∙ char-width (take (suc n) u) (drop (suc n) u ++ t) k.0 ∙ length-take-le (suc n) u k.1

-- where the longer text begins with a sequence that ends inside u, u begins with it
width-less : (u t : List ℕ) (n : ℕ) → width (u ++ t) ≡ suc n → suc n ≤ length u → width u ≡ suc n
width-less u t n e h =
    let k = rw e at (width-char (u ++ t) (omega arith)) in
    let c : is_char (take (suc n) u) ≡ true = rw (take-append-le (suc n) u t h) at k.0 in
    sym (ap width (take-append-drop (suc n) u)) ∙ char-width (take (suc n) u) (drop (suc n) u) c ∙ length-take-le (suc n) u h

width_same : (u t : List ℕ) → width (u ++ t) ≤ length u → width (u ++ t) ≡ width u
width_same u t h = go (width (u ++ t)) (width u) refl refl
  where
    go : (n m : ℕ) → width (u ++ t) ≡ n → width u ≡ m → n ≡ m
    go n (suc m) p q = sym p ∙ width-more u t m q
    go (suc n) zero p q = sym (width-less u t n p (omega arith)) ∙ q
    go zero zero p q = refl

see-same : (s t : List ℕ) (p : ℕ) → p < length s → width (drop p s ++ t) ≤ length (drop p s) → see (s ++ t) p ≡ see s p
unfolding code rest
see-same s t p h l =
    let u = drop p s in
    let w = width_same u t l in
    let k : take (width u) (u ++ t) ≡ take (width u) u = take-append-le (width u) u t (width-inside u).0 in
    see-at (s ++ t) p (omega (arith, length-append s t)) ∙ rw (drop-append-le p s t (omega arith), w, k) (sym (see-at s p h))

-- ---- where what follows does not begin with a tail, no character of the text reaches into it

front-width : (u t : List ℕ) (n : ℕ) → 0 < length u → within tail (get_or t 0 256) ≡ false → width (u ++ t) ≡ n → n ≤ length u
front-width u t n h f e = go (leb n (length u)) refl
  where
    go : (x : Bool) → leb n (length u) ≡ x → n ≤ length u
    go true q = leb-true n (length u) q
    go false q =
        let l = leb-false n (length u) q in
        let k = rw e at (width-char (u ++ t) (omega arith)) in
        let c = char-further (take n (u ++ t)) (length u) 256 k.0 h (omega (arith, length-take-le n (u ++ t) k.1)) in
        let z : length u + 0 ≡ length u = omega arith in
        let g : get_or (take n (u ++ t)) (length u) 256 ≡ get_or t 0 256 =
        get_or-take n (u ++ t) (length u) 256 l ∙ ap (λ (m : ℕ). get_or (u ++ t) m 256) (sym z) ∙ get_or-append-add u t 0 256 in
        let b = ap (within tail) g in let o : ◌≡◌ {A = ℕ} 0 1 = cc in absurd (omega arith)

pub see-front : (s t : List ℕ) (p : ℕ) → within tail (get_or t 0 256) ≡ false → p < length s → see (s ++ t) p ≡ see s p
see-front s t p f h = see-same s t p h (front-width (drop p s) t (width (drop p s ++ t)) (omega (arith, length-drop p s)) f refl)
