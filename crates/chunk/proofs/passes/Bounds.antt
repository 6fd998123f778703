-- How many octets chunks are formatted as, at most.
--     format-most, surely                         two for each chunk, and its text; so they fit where these do
--     Fitting, fit-start, fit-turn                the loop of `surely_fits`: its invariant, where it begins, and its turn
--     fit-stop, fit-done                          what it answers where the octets are more than the room, and at its end
-- Assumes nothing.
use Rattle.std.proofs.Common.{ℕ, ◌+◌, ◌-◌, ◌*◌, ◌/◌, ◌≤◌, ◌<◌, arith, ◌≡◌, sym, ap, ap₂, Bool}
use Rattle.std.proofs.Common.{true, false, cond, List, [], ◌∷◌, ◌++◌, map, length, drop, length-append, leb, leb-true, le-leb}
use borrow.Author.Tests.{lt-leb}
use Rattle.text.proofs.general.Parts.{part-size}
use Rattle.chunk.specs.declared.form.Kind.{Kind}
use Rattle.chunk.specs.declared.form.Kind.TheVariants.{Normal, Verbatim, Math}
use Rattle.chunk.specs.Chunk.{ChunkRow, chunk_rows, chunk_of, chunks_of, are_chunks, Stores}
use Rattle.chunk.specs.Format.{is_line_end, white, before, lines, format_one, format_from, format_verbatim}
use Rattle.chunk.specs.Inner.{most_of}
use Rattle.chunk.proofs.rows.RowCheck.{rows-next, rows_end, Checking, starts, check-turn}
use Rattle.chunk.proofs.passes.Passes.{row-passes}

lines-most : (w : Bool) (u t : List ℕ) → length (lines w u t).text ≤ length t
unfolding lines
lines-most w u [] = omega arith
lines-most w u (b ∷ t) = by (is_line_end b) (white w u) (lines-most true [] t) (lines-most w (u ++ b ∷ []) t)
  where
    by : (e v : Bool) → length (lines true [] t).text ≤ length t → length (lines w (u ++ b ∷ []) t).text ≤ length t →
        length (cond e (cond v (lines true [] t) (before (0x20 ∷ []) (lines true [] t))) (before (b ∷ []) (lines w (u ++ b ∷ []) t))).text ≤ length (b ∷ t)
    by true true p q = omega arith
    by true false p q = omega arith
    by false v p q = omega arith

one-most : (w : Bool) (k : Kind) (t : List ℕ) → length (format_one w k t).text ≤ length t + 2
one-most w Normal t = omega (arith, lines-most w [] t)
one-most w Verbatim t = omega arith
one-most w Math t = omega (arith, length-append t (0x24 ∷ []))

pub format-most : (t : List ℕ) (rs : List ChunkRow) (w : Bool) → length (format_from w (map (chunk_of t) rs)) ≤ most_of 1 rs
unfolding format_from most_of
format-most t [] w = omega arith
format-most t (r ∷ rs) w =
    let c = chunk_of t r in
    let f = format_one w c.kind c.text in
    let one = one-most w c.kind c.text in
    let others = format-most t rs f.white in
    sum (length-append f.text (format_from f.white (map (chunk_of t) rs))) one (part-size t r.from r.to) others
  where
    sum : {n a b c d m : ℕ} → n ≡ a + b → a ≤ c + 2 → c ≤ d → b ≤ m → n ≤ 1 * d + 2 + m
    sum p q r s = omega arith

pub surely : (t l : List ℕ) {room : ℕ} → leb (most_of 1 (chunk_rows l)) room ≡ true → length (format_verbatim (chunks_of t l)) ≤ room
surely t l {room} e = omega (arith, format-most t (chunk_rows l) false, leb-true (most_of 1 (chunk_rows l)) room e)

-- ---- the loop of `surely_fits`

-- the rows before row i come to n octets at most, m times their text. The rows passed the check over some text
pub record Fitting (m : ℕ) (l : List ℕ) (n i : ℕ) : Type 0 where
  pub over : List ℕ
  pub chunks : are_chunks over l ≡ true
  pub checks : Checking over l i
  pub same : n + most_of m (chunk_rows (drop (i * 5) l)) ≡ most_of m (chunk_rows l)

pub fit-start : (m : ℕ) (t l : List ℕ) → are_chunks t l ≡ true → Fitting m l 0 0
fit-start m t l e = record { over = t; chunks = e; checks = starts t l e; same = omega arith }

module _ {m : ℕ} {l : List ℕ} {n i : ℕ} (g : Fitting m l n i) where
  pub fit-turn : i < length l / 5 → {k f e : ℕ} → Stores l (i * 5) k f e → Fitting m l (n + (m * (e - f) + 2)) (i + 1)
  unfolding most_of
  fit-turn h {k} {f} {e} s = record {
    over = g.over;
    chunks = g.chunks;
    checks = check-turn g.checks h (row-passes g.checks g.chunks h);
    same = sum (most_of m (chunk_rows (drop ((i + 1) * 5) l))) (ap₂ (λ (x y : ℕ). m * (y - x)) s.from s.to) (ap (most_of m) (rows-next l i h)) g.same;
  }
    where
      sum : (k : ℕ) {a b x all : ℕ} → a ≡ b → x ≡ b + 2 + k → n + x ≡ all → n + (a + 2) + k ≡ all
      sum k p r z = omega arith

  pub fit-stop : {room : ℕ} → room < n → false ≡ leb (most_of m (chunk_rows l)) room
  fit-stop {room} h = sym (lt-leb (most_of m (chunk_rows l)) room (omega (arith, g.same)))

  pub fit-done : length l / 5 ≤ i → {room : ℕ} → n ≤ room → true ≡ leb (most_of m (chunk_rows l)) room
  unfolding most_of
  fit-done h {room} k =
      let none : most_of m (chunk_rows (drop (i * 5) l)) ≡ 0 = ap (most_of m) (rows_end l i g.checks.whole h) in
      sym (le-leb (most_of m (chunk_rows l)) room (omega (arith, g.same, none)))
