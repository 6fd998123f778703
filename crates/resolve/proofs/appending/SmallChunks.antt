-- When the chunks of a value are more than are counted; and texts set one behind the other.
--     small-text, small-rows, small-both      by the bytes of their text and the number of their rows
--     small-fits                              no room holds more
--     small-more                              chunks that are too many stay too many when others are appended
--     sets_behind                             a text set behind another
-- Assumes nothing.
use Prim.Native.Nat.{ℕ, ◌+◌, ◌/◌, ◌≤◌, ◌<◌}
use native.Mathlib.Omega.{arith}
use mathlib.Core.Path.{◌≡◌, refl, ap, ◌∙◌}
use mathlib.Core.Bool.{Bool, true, false, ◌&&◌, and-false}
use mathlib.Core.List.{List, ◌++◌}
use lib.ListN.{length, length-append}
use lib.Seq.{sets}
use lib.Dec.{leb}
use borrow.Author.Tests.{leb-true, leb-false, le-leb, lt-leb}
use Rattle.text.proofs.general.Lists.{sets-append}
use Rattle.chunk.specs.Chunk.{Chunk}
use Rattle.chunk.specs.Put.{last_place}
use Rattle.turn.specs.Content.{flatten}
use Rattle.literal.specs.Rows.{most_number, most_rows, texts_of}
use Rattle.literal.proofs.Flattening.{flattening}
use Rattle.resolve.specs.Resolves.{roomy, fits}
use Rattle.resolve.specs.Progress.{small}

-- ---- more than are counted

module _ (cs : List Chunk) where
  pub small-text : most_number < length (texts_of cs) → small (flatten cs) ≡ false
  unfolding small
  small-text h = rw (flattening.texts-flat cs, lt-leb (length (texts_of cs)) most_number h, and-false)

  pub small-rows : most_rows < length (flatten cs) → small (flatten cs) ≡ false
  unfolding small
  small-rows h = rw (lt-leb (length (flatten cs)) most_rows h)

  pub small-both : length (flatten cs) ≤ most_rows → length (texts_of cs) ≤ most_number → small (flatten cs) ≡ true
  unfolding small
  small-both h k = rw (flattening.texts-flat cs, le-leb (length (flatten cs)) most_rows h, le-leb (length (texts_of cs)) most_number k)

-- a length has 64 bits, so no lent numbers have room for rows that are not counted
pub small-fits : (cs : List Chunk) (b t : List ℕ) → length b ≤ last_place → fits cs b t ≡ (small cs && roomy cs b t)
unfolding small
small-fits cs b t h = by (leb (length cs) (length b / 5)) refl (leb (length (texts_of cs)) most_number)
  where
    by : (x : Bool) → leb (length cs) (length b / 5) ≡ x → (y : Bool)
        → (y && (x && leb (length (texts_of cs)) (length t))) ≡ ((leb (length cs) most_rows && y) && (x && leb (length (texts_of cs)) (length t)))
    by true e y = rw (le-leb (length cs) most_rows (omega (arith, leb-true (length cs) (length b / 5) e)))
    by false e y = rw (and-false, and-false)

pub small-more : (ps cs : List Chunk) → small (flatten ps) ≡ false → small (flatten (ps ++ cs)) ≡ false
small-more ps cs e = by (leb (length (flatten (ps ++ cs))) most_rows) refl (leb (length (texts_of (ps ++ cs))) most_number) refl
  where
    rows : length (flatten ps) ≤ length (flatten (ps ++ cs))
    rows = flattening.fewer ps cs

    text : length (texts_of ps) ≤ length (texts_of (ps ++ cs))
    text = omega (arith, ap length (flattening.texts-both ps cs), length-append (texts_of ps) (texts_of cs))

    by : (v : Bool) → leb (length (flatten (ps ++ cs))) most_rows ≡ v → (w : Bool) → leb (length (texts_of (ps ++ cs))) most_number ≡ w
        → small (flatten (ps ++ cs)) ≡ false
    by false p w q = small-rows (ps ++ cs) (leb-false (length (flatten (ps ++ cs))) most_rows p)
    by true p false q = small-text (ps ++ cs) (leb-false (length (texts_of (ps ++ cs))) most_number q)
    by true p true q =
        let h = leb-true (length (flatten (ps ++ cs))) most_rows p in
        let k = leb-true (length (texts_of (ps ++ cs))) most_number q in
        let s = small-both ps (omega (arith, rows)) (omega (arith, text)) in
        let z : ◌≡◌ {A = ℕ} 0 1 = cc in absurd (omega arith)

-- ---- texts

pub sets_behind : (v w o : List ℕ) → sets o 0 (v ++ w) ≡ sets (sets o 0 v) (length v) w
sets_behind v w o = sets-append v w o 0 ∙ ap (λ (k : ℕ). sets (sets o 0 v) k w) (zeroed (length v))
  where
    zeroed : (n : ℕ) → 0 + n ≡ n
    zeroed n = omega arith
