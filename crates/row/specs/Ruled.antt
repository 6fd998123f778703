-- What the definitions of `Rules` and `Masks` settle: laws of the row rules, on which the crates above rest. The proof is `ruled` of
-- proofs/Ruled.antt. Assumes nothing.
use Rattle.std.specs.Prelude.{ℕ, ◌≤◌, ◌≡◌, Bool, true, cond, ◌&&◌, List, [], ◌∷◌, ◌++◌}
use Rattle.row.specs.Row.{Row, moved}
use Rattle.row.specs.Rules.{Await, part, chunks, wrong, next, is_detail, run, whole, is_rows, clean}
use Rattle.row.specs.Masks.{masks_of, step_of, ends_of}

-- what may come after a row of kind k with detail d, where a may come before it
abbrev pub after_row : Await → ℕ → ℕ → Await
after_row a k d = cond (is_detail k d) (next a k) wrong

-- here a part of the sequence may begin, and the sequence may end
pub data Free : Await → Type 0 where
  none : (f : Bool) → Free (part f)
  one : (f : Bool) → Free (chunks f)

-- a kind and a detail that half a byte holds
pub record Small (r : Row) : Type 0 where
  pub kind : r.kind ≤ 10
  pub detail : r.detail ≤ 10

unfoldable pub AllSmall : List Row → Type 0
AllSmall [] = Unit {0}
AllSmall (r ∷ rs) = Small r × AllSmall rs

pub record Ruled : Type 0 where
  -- the rules over two lists are the rules over the first, and from there over the second
  pub run-append : (a : Await) (rs ss : List Row) → run a (rs ++ ss) ≡ run (run a rs) ss
  pub free-whole : (a : Await) → Free a → whole a ≡ true
  -- two lists that keep the rules keep them together, and rows moved on keep them as before
  pub rows_append : (rs ss : List Row) → is_rows rs ≡ true → is_rows ss ≡ true → is_rows (rs ++ ss) ≡ true
  pub rows-moved : (d : ℕ) (rs : List Row) → is_rows (moved d rs) ≡ is_rows rs
  -- damage is among two lists if it is among one of them, and among rows moved on as before
  pub clean-append : (rs ss : List Row) → clean (rs ++ ss) ≡ (clean rs && clean ss)
  pub clean-moved : (d : ℕ) (rs : List Row) → clean (moved d rs) ≡ clean rs
  -- rows that keep the rules have kinds and details of at most 10
  pub rules-small : (rs : List Row) → is_rows rs ≡ true → AllSmall rs
  -- the masks lead where the rules lead: after a row, and at the end of the sequence
  pub masks-step : (a : Await) (k d : ℕ) → step_of (masks_of a) k d ≡ masks_of (after_row a k d)
  pub masks-whole : (a : Await) → ends_of (masks_of a) ≡ whole a
