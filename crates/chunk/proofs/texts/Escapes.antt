-- Characters that are escaped.
--     in_a_row                     the code's tests, joined as `mark` joins them
--     escape-some, escape-none     a character that is escaped, and one that is not
--     escaped-append               escaping two texts, one after the other
--     escaped-on                   the turn of the loop
-- Assumes nothing.
use Rattle.std.proofs.Common.{ℕ, ◌+◌, ◌<◌, ◌≡◌, refl, sym, ap, ◌∙◌, Bool, true, false, cond, not, ◌&&◌, ◌||◌, List, [], ◌∷◌, ◌++◌}
use Rattle.std.proofs.Common.{length, get_or, take}
use Rattle.std.proofs.lemmas.List.{take_more}
use mathlib.Core.Bool.{or_assoc, or-false}
use Rattle.chunk.specs.Format.{is_escapable, escaped}
use Rattle.chunk.specs.Put.{Puts}
use Rattle.chunk.proofs.texts.Puts.{puts-on, puts-as}

pub in_a_row : (a b c d e f g h i j k v r : Bool) →
    (a || b || c || ((d || e || f || g || h || i || j) && not v) || (k && r))
    ≡ ((a || (b || (c || false))) || ((d || (e || (f || (g || (h || (i || (j || false))))))) && not v) || (k && r))
in_a_row a b c d e f g h i j k v r = simp (or_assoc, or-false)

pub escape-some : (verb : Bool) (b : ℕ) → is_escapable b verb false ≡ true → 0x5C ∷ b ∷ [] ≡ escaped verb (b ∷ [])
unfolding escaped
escape-some verb b e = rw e

pub escape-none : (verb : Bool) (b : ℕ) → is_escapable b verb false ≡ false → b ∷ [] ≡ escaped verb (b ∷ [])
unfolding escaped
escape-none verb b e = rw e

-- the character b, with a backslash where it is escaped, before the text that follows
abbrev behind : Bool → ℕ → List ℕ → List ℕ
behind x b t = cond x (0x5C ∷ b ∷ t) (b ∷ t)

pub escaped-append : (verb : Bool) (s t : List ℕ) → escaped verb (s ++ t) ≡ escaped verb s ++ escaped verb t
unfolding escaped
escaped-append verb [] t = refl
escaped-append verb (b ∷ s) t =
    ap (behind (is_escapable b verb false) b) (escaped-append verb s t) ∙ by (is_escapable b verb false) (escaped verb s) (escaped verb t)
  where
    by : (x : Bool) (v w : List ℕ) → behind x b (v ++ w) ≡ behind x b v ++ w
    by true v w = refl
    by false v w = refl

-- ---- the loop over the octets xs

module _ (verb : Bool) (xs : List ℕ) where
  pub escaped-on : {o₀ o o' : List ℕ} {n i j r : ℕ} → i < length xs → Puts o₀ n (escaped verb (take i xs)) j o →
      Puts o j (escaped verb (get_or xs i 0 ∷ [])) r o' → Puts o₀ n (escaped verb (take (i + 1) xs)) r o'
  escaped-on {i = i} l p q = puts-as (sym (ap (escaped verb) (take_more xs i 0 l) ∙ escaped-append verb (take i xs) (get_or xs i 0 ∷ []))) (puts-on p q)
