-- Where a piece ends: the ways through `begins`, `short_length` and `far_end`, over what their calls answered.
--     begins-not, begins-is               `begins`, by whether "@" stands there
--     short-found, short_on               `short_length`: a piece begins at the place, or not
--     found-last, found-head, found-on    `far_end`: no "@" is left; one stands after a newline; one stands elsewhere
-- Assumes nothing.
use Rattle.std.proofs.Common.{ℕ, zero, suc, ◌+◌, ◌-◌, ◌≤◌, ◌<◌, arith, ◌≡◌, refl, sym, ap, ◌∙◌, subst, Bool, true, false, cond, ◌&&◌, List, [], ◌∷◌, length, get_or, drop}
use Rattle.std.proofs.Common.{drop_of_length-le, eqb, eq-eqb, ne_eqb}
use mathlib.Core.Bool.{and-true, and-false}
use Rattle.text.specs.Block.{Found}
use Rattle.text.proofs.general.Tests.{both_true}
use Rattle.text.proofs.general.Places.{drop-next}
use Rattle.salvage.specs.Salvage.{head, newline, cut}
use Rattle.salvage.specs.Demand3.{fresh}
use Rattle.salvage.specs.Inner.{PieceEnds}
use Rattle.salvage.proofs.cutting.Boundaries.{head-opens}

module _ (s : List ℕ) where
  -- a piece begins at i: after a newline, and with "@"
  abbrev pub BeginsAt : ℕ → Bool
  BeginsAt i = newline (get_or s (i - 1) 0) && head (drop i s)

  -- ---- `begins`

  head_in : (i : ℕ) → i < length s → eqb (get_or s i 0) 0x40 ≡ head (drop i s)
  unfolding head
  head_in i h = rw (drop-next s i h) refl

  no-head : (i : ℕ) → i < length s → (get_or s i 0 ≡ 0x40 → ⊥) → head (drop i s) ≡ false
  no-head i h z = sym (head_in i h) ∙ ne_eqb (get_or s i 0) 0x40 z

  pub begins-not : (i : ℕ) → i < length s → (get_or s i 0 ≡ 0x40 → ⊥) → false ≡ BeginsAt i
  begins-not i h z = sym (ap (λ (x : Bool). newline (get_or s (i - 1) 0) && x) (no-head i h z) ∙ and-false (newline (get_or s (i - 1) 0)))

  pub begins-is : (i : ℕ) → i < length s → get_or s i 0 ≡ 0x40 → newline (get_or s (i - 1) 0) ≡ BeginsAt i
  begins-is i h e =
      let y = sym (head_in i h) ∙ eq-eqb (get_or s i 0) 0x40 e in
      sym (ap (λ (x : Bool). newline (get_or s (i - 1) 0) && x) y ∙ and-true (newline (get_or s (i - 1) 0)))

  -- ---- one byte of a piece

  module _ (i : ℕ) (h : i < length s) where
    -- the piece ends after the byte that stands here
    ends-here : cut (drop i s) ≡ (get_or s i 0 ∷ []) ∷ cut (drop (i + 1) s) → fresh (drop (i + 1) s) ≡ true → PieceEnds s i (i + 1)
    ends-here e f =
        let n : i + 1 - i ≡ 1 = omega arith in
        record { from = omega arith; to = omega arith; cuts = e ∙ rw (n, drop-next s i h) refl; next = f }

    ends_last : length s ≤ i + 1 → PieceEnds s i (i + 1)
    unfolding cut fresh
    ends_last l =
        let d = drop_of_length-le s l in
        ends-here (rw (drop-next s i h, d) (by (newline (get_or s i 0) && head []))) (rw d refl)
      where
        by : (x : Bool) → cond {A = List (List ℕ)} x ((get_or s i 0 ∷ []) ∷ []) ((get_or s i 0 ∷ []) ∷ []) ≡ (get_or s i 0 ∷ []) ∷ []
        by true = refl
        by false = refl

    ends-head : newline (get_or s i 0) ≡ true → head (drop (i + 1) s) ≡ true → PieceEnds s i (i + 1)
    unfolding cut
    ends-head x y = ends-here (rw (drop-next s i h, x, y) refl) (head-opens (drop (i + 1) s) y)

    -- any other byte belongs to the piece of the byte behind it
    ends_on : (e : ℕ) → newline (get_or s i 0) && head (drop (i + 1) s) ≡ false → PieceEnds s (i + 1) e → PieceEnds s i e
    unfolding cut
    ends_on e x y =
        let n : e - i ≡ suc (e - (i + 1)) = omega (arith, y.from) in
        record {
          from = omega (arith, y.from);
          to = y.to;
          cuts = rw (drop-next s i h, x, y.cuts, n) refl;
          next = y.next;
        }

  -- ---- the byte before a place

  module _ (i : ℕ) (h : 0 < i) (l : i < length s) where
    back : i ≡ i - 1 + 1
    back = omega arith

    begun : newline (get_or s (i - 1) 0) ≡ true → head (drop i s) ≡ true → PieceEnds s (i - 1) i
    begun x y =
        let z : head (drop (i - 1 + 1) s) ≡ true = ap (λ (n : ℕ). head (drop n s)) (sym back) ∙ y in
        subst (PieceEnds s (i - 1)) (sym back) (ends-head (i - 1) (omega arith) x z)

    not-begun : BeginsAt i ≡ false → (e : ℕ) → PieceEnds s i e → PieceEnds s (i - 1) e
    not-begun x e y =
        let z = ap (λ (n : ℕ). newline (get_or s (i - 1) 0) && head (drop n s)) (sym back) ∙ x in
        ends_on (i - 1) (omega arith) e z (subst (λ (n : ℕ). PieceEnds s n e) back y)

  -- ---- `short_length`

  module _ (i : ℕ) (h : 0 < i) (l : i < length s) {b : Bool} (d : b ≡ BeginsAt i) where
    pub short-found : b ≡ true → PieceEnds s (i - 1) i
    short-found e =
        let t = both_true (newline (get_or s (i - 1) 0)) (head (drop i s)) (sym d ∙ e) in
        begun i h l t.0 t.1

    pub short_on : b ≡ false → (e : ℕ) → PieceEnds s i e → PieceEnds s (i - 1) e
    short_on e = not-begun i h l (sym d ∙ e)

  -- ---- `far_end`

  pub ends-place : (e i j : ℕ) → i ≡ j → PieceEnds s i e → PieceEnds s j e
  ends-place e i j q x = subst (λ (m : ℕ). PieceEnds s m e) q x

  -- no piece ends between two "@"
  ends-skip : (n i : ℕ) → i + n < length s → ((k : ℕ) → i + 1 ≤ k → k < i + 1 + n → get_or s k 0 ≡ 0x40 → ⊥) → (e : ℕ) → PieceEnds s (i + n) e → PieceEnds s i e
  ends-skip zero i h a e x = ends-place e (i + 0) i (omega arith) x
  ends-skip (suc n) i h a e x =
      let z = no-head (i + 1) (omega arith) (a (i + 1) (omega arith) (omega arith)) in
      ends_on i (omega arith) e (ap (λ (x : Bool). newline (get_or s i 0) && x) z ∙ and-false (newline (get_or s i 0)))
      (ends-skip n (i + 1) (omega arith) (λ k p q. a k (omega arith) (omega arith)) e (ends-place e (i + suc n) (i + 1 + n) (omega arith) x))

  module _ (i j : ℕ) (h : i < length s) (f : Found 0x40 s (i + 1) j) where
    some : 0 < j
    some = omega (arith, f.from)

    skip-to : (e : ℕ) → PieceEnds s (j - 1) e → PieceEnds s i e
    skip-to e x =
        let q : j - 1 ≡ i + (j - (i + 1)) = omega (arith, f.from) in
        ends-skip (j - (i + 1)) i (omega (arith, f.from, f.to)) (λ k p q. f.before k p (omega arith)) e
        (ends-place e (j - 1) (i + (j - (i + 1))) q x)

    pub found-last : length s ≤ j → PieceEnds s i j
    found-last l =
        let q : j - 1 + 1 ≡ j = omega (arith, f.from) in
        skip-to j (subst (PieceEnds s (j - 1)) q (ends_last (j - 1) (omega (arith, f.from, f.to)) (omega arith)))

    module _ (l : j < length s) where
      pub found-head : get_or s (j - 1) 0 ≡ 0x0A → PieceEnds s i j
      found-head e = skip-to j (begun j some l (eq-eqb _ _ e) (sym (head_in j l) ∙ eq-eqb (get_or s j 0) 0x40 (f.at l)))

      pub found-on : (get_or s (j - 1) 0 ≡ 0x0A → ⊥) → (e : ℕ) → PieceEnds s j e → PieceEnds s i e
      found-on z e x = skip-to e (not-begun j some l (rw (ne_eqb (get_or s (j - 1) 0) 0x0A z) refl) e x)
