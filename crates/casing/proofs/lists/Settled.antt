-- Ranges of characters that no row of a list has: a character in one of them is its own image.
--     is_clear      the test of a range, against all rows
--     clear_of      what follows
-- Assumes nothing.
use Rattle.std.proofs.Common.{ℕ, arith, ◌≡◌, refl, Bool, true, false, ◌&&◌, ◌||◌, List, [], ◌∷◌, ltb, leb, ltb-true}
use borrow.Author.Tests.{lt-leb}
use Rattle.text.specs.Every.{every}
use Rattle.text.specs.Range.{Range, within, among}
use Rattle.text.proofs.general.Tests.{both_true, within-true, true-not-false}
use Rattle.casing.specs.Mapping.{Stride, covers, mapped}

-- the row ends before the range, or begins behind it
abbrev is_apart : Range → Stride → Bool
is_apart g r = ltb r.last g.first || ltb g.last r.first

abbrev pub is_clear : List Stride → Range → Bool
is_clear rs g = every (is_apart g) rs

uncovered : (g : Range) (r : Stride) (c : ℕ) → is_apart g r ≡ true → within g c ≡ true → covers r c ≡ false
uncovered g r c e h = by (ltb r.last g.first) refl e
  where
    by : (x : Bool) → ltb r.last g.first ≡ x → (x || ltb g.last r.first) ≡ true → covers r c ≡ false
    by true p q = let w = within-true g c h in rw (lt-leb c r.last (omega (arith, ltb-true r.last g.first p, w.0))) (third (leb r.first c))
      where
        third : (x : Bool) → (x && false) ≡ false
        third true = refl
        third false = refl
    by false p q = let w = within-true g c h in rw (lt-leb r.first c (omega (arith, ltb-true g.last r.first q, w.1)))

clear : (g : Range) (rs : List Stride) (c : ℕ) → is_clear rs g ≡ true → within g c ≡ true → mapped rs c ≡ c ∷ []
unfolding mapped every
clear g [] c e h = refl
clear g (r ∷ rs) c e h = let x = both_true (is_apart g r) (is_clear rs g) e in rw (uncovered g r c x.0 h) (clear g rs c x.1 h)

-- what holds of a character in each range of a list holds of a character in one of them
pub in_one : (p : ℕ → Type 0) (t : Range → Bool) → ((g : Range) (c : ℕ) → t g ≡ true → within g c ≡ true → p c) →
    (gs : List Range) → every t gs ≡ true → (c : ℕ) → among gs c ≡ true → p c
unfolding every
in_one p t law [] e c h = true-not-false false h refl
in_one p t law (g ∷ gs) e c h = by (within g c) refl h (both_true (t g) (every t gs) e) (λ f k. in_one p t law gs f c k)
  where
    by : (x : Bool) → within g c ≡ x → (x || among gs c) ≡ true → (t g ≡ true) × (every t gs ≡ true) →
        (every t gs ≡ true → among gs c ≡ true → p c) → p c
    by true q h y on = law g c y.0 q
    by false q h y on = on y.1 h

pub clear_of : (rs : List Stride) (gs : List Range) → every (is_clear rs) gs ≡ true → (c : ℕ) → among gs c ≡ true → mapped rs c ≡ c ∷ []
clear_of rs gs e c h = in_one (λ c. mapped rs c ≡ c ∷ []) (is_clear rs) (λ g c x y. clear g rs c x y) gs e c h
