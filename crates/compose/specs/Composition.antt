-- What the list and its search promise to the crates above. The proof is `composition` of proofs/Composition.antt; that two outcomes which a
-- contract allows are equal is proofs/Unique.antt.
-- Assumes nothing.
use Rattle.std.specs.Prelude.{ℕ, ◌≡◌, Bool, true, false, ◌||◌, eqb, Some}
use mathlib.Core.List.{List, [], ◌∷◌, Memᴰ}
use Rattle.text.specs.Every.{every}
use Rattle.compose.specs.Lookup.{Composite, ◌with◌is◌, numbers, lookup, rises}
use Rattle.compose.specs.Composites.{composites}
use Rattle.compose.specs.Halving.{halved}

-- [resolve.rs:execute_command] the marks that a command puts on a letter
unfoldable pub marks : List ℕ
marks =
    0x0300 ∷ 0x0301 ∷ 0x0302 ∷ 0x0303 ∷ 0x0304 ∷ 0x0306 ∷ 0x0307 ∷ 0x0308 ∷ 0x030A ∷ 0x030B ∷ 0x030C ∷ 0x0323 ∷ 0x0327 ∷ 0x0328 ∷ 0x0332 ∷ 0x0338 ∷ []

unfoldable pub is_among : List ℕ → ℕ → Bool
is_among [] n = false
is_among (m ∷ ms) n = eqb m n || is_among ms n

pub record Composition : Type 0 where
  -- [01:Resolving and writing] "strictly rising by letter and mark, for the sixteen marks": tests that are computed over the whole list
  pub rising : rises composites ≡ true
  pub sixteen : every (λ r. is_among marks r.mark) composites ≡ true
  -- a letter and a mark compose to c exactly if the row with these three is in the list (`List.Memᴰ`)
  pub listed : (l m c : ℕ) → lookup composites l m ≡ Some c → Memᴰ (l with m is c) composites
  pub finds : (l m c : ℕ) → Memᴰ (l with m is c) composites → lookup composites l m ≡ Some c
  -- what holds of every row holds of what is found
  pub each : (p : Composite → Bool) → every p composites ≡ true → (l m c : ℕ) → lookup composites l m ≡ Some c → p (l with m is c) ≡ true
  -- `find` in what `table` gives is the lookup in the list
  pub by-halving : (l m : ℕ) → halved (numbers composites) l m ≡ lookup composites l m
