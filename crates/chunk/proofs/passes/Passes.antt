-- A pass over chunk rows, for every writer: `from b cs` is what a writer makes of the chunks cs where its state is b.
--     Passing, passed, at-end      the loop: its invariant, its turn, and its end
--     row-passes, row_here         a row where all pass the check; its text lies inside the lent text
--     fills-more, fills-bytes      what the pass answers
-- Assumes nothing.
use Rattle.std.proofs.Common.{ℕ, ◌+◌, ◌*◌, ◌/◌, ◌≤◌, ◌<◌, arith, ◌≡◌, sym, ap, ◌∙◌, true, not}
use Rattle.std.proofs.Common.{List, [], ◌∷◌, ◌++◌, map, append_assoc, length, get_or, drop, length-append, leb, leb-true}
use lib.Seq.{sets}
use Rattle.text.specs.Range.{within}
use Rattle.text.specs.Utf8.{tail, is_boundary}
use Rattle.text.proofs.general.Tests.{both_true}
use Rattle.chunk.specs.Chunk.{Chunk, ChunkRow, chunk_rows, chunk_of, is_chunk, are_chunks, Stores}
use Rattle.chunk.specs.Put.{Puts, Fills}
use Rattle.chunk.proofs.rows.RowCheck.{row_at, rows-next, rows_end, Checking, opened, check-turn}
use Rattle.chunk.proofs.texts.Puts.{puts-on}

-- ---- a row that passed the check

boundary-inside : (t : List ℕ) (n : ℕ) → is_boundary t n ≡ true → n ≤ length t
unfolding is_boundary
boundary-inside t n e = leb-true _ _ (both_true (leb n (length t)) (not (within tail (get_or t n 256))) e).0

row_inside : (t : List ℕ) (r : ChunkRow) → is_chunk t r ≡ true → (r.from ≤ r.to) × (r.to ≤ length t)
row_inside t r e =
    let b = both_true _ _ (both_true (leb r.kind 2) _ e).1 in
    (leb-true _ _ b.0, boundary-inside t r.to (both_true (is_boundary t r.from) (is_boundary t r.to) b.1).1)

-- ---- the loop

-- the chunks of the rows from row i on
abbrev pub rest : List ℕ → List ℕ → ℕ → List Chunk
rest t l i = map (chunk_of t) (chunk_rows (drop (i * 5) l))

-- the writer's whole text is w. What the rows before row i come to is put from the place n₀ on; the place is now n, and the state b
pub record Passing {S : Type 0} (from : S → List Chunk → List ℕ) (w t l o₀ : List ℕ) (n₀ : ℕ) (o : List ℕ) (b : S) (n i : ℕ) : Type 0 where
  pub text : List ℕ
  pub puts : Puts o₀ n₀ text n o
  pub same : text ++ from b (rest t l i) ≡ w
  pub checks : Checking t l i
  pub long : length o ≡ length o₀

module _ {t l : List ℕ} {i : ℕ} (g : Checking t l i) (all-chunks : are_chunks t l ≡ true) (h : i < length l / 5) where
  pub row-passes : is_chunk t (row_at l (i * 5)) ≡ true
  row-passes = (both_true _ _ (opened g h ∙ all-chunks)).0

  pub row_here : {k f e : ℕ} → Stores l (i * 5) k f e → (f ≤ e) × (e ≤ length t)
  row_here s = let y = row_inside t (row_at l (i * 5)) row-passes in (omega (arith, y.0, s.from, s.to), omega (arith, y.1, s.to))

module _ {S : Type 0} {from : S → List Chunk → List ℕ} {w t l o₀ : List ℕ} {n₀ : ℕ} {o : List ℕ} {b : S} {n i : ℕ}
    (g : Passing from w t l o₀ n₀ o b n i) (all-chunks : are_chunks t l ≡ true) where
  module _ (h : i < length l / 5) where
    -- row i is written as v, and leaves the state d
    pub passed : {v : List ℕ} {d : S} {r : ℕ} {o' : List ℕ} →
        from b (chunk_of t (row_at l (i * 5)) ∷ rest t l (i + 1)) ≡ v ++ from d (rest t l (i + 1)) → Puts o n v r o' → length o' ≡ length o →
        Passing from w t l o₀ n₀ o' d r (i + 1)
    passed {v} {d} e y z = record {
      text = g.text ++ v;
      puts = puts-on g.puts y;
      same =
          append_assoc g.text v (from d (rest t l (i + 1)))
          ∙ ap (λ (x : List ℕ). g.text ++ x) (sym e)
          ∙ ap (λ (x : List ChunkRow). g.text ++ from b (map (chunk_of t) x)) (sym (rows-next l i h))
          ∙ g.same;
      checks = check-turn g.checks h (row-passes g.checks all-chunks h);
      long = z ∙ g.long;
    }

  -- past the last row
  pub at-end : length l / 5 ≤ i → g.text ++ from b [] ≡ w
  at-end h = ap (λ (x : List ChunkRow). g.text ++ from b (map (chunk_of t) x)) (sym (rows_end l i g.checks.whole h)) ∙ g.same

-- ---- the answer

pub fills-more : (u : List ℕ) {v w o₀ o : List ℕ} {n room : ℕ} → v ++ u ≡ w → Puts o₀ 0 v n o → room < n → Fills w room o₀ n o
fills-more u {v} {w} {n = n} e y h = record {
  inside = longer (length v) (length u) (length w) y.end (sym (length-append v u) ∙ ap length e);
  whole = λ k. absurd (omega (arith, h, k));
}
  where
    longer : (a b c : ℕ) → n ≡ 0 + a → a + b ≡ c → n ≤ c
    longer a b c p q = omega arith

pub fills-bytes : {v w o₀ o : List ℕ} {n room : ℕ} → v ≡ w → Puts o₀ 0 v n o → Fills w room o₀ n o
fills-bytes {v} {w} {o₀} {n = n} e y = record { inside = omega (arith, size); whole = λ k. (size, y.bytes ∙ ap (sets o₀ 0) e) }
  where
    size : n ≡ length w
    size = sum n (length v) (length w) y.end (ap length e)
      where
        sum : (n a b : ℕ) → n ≡ 0 + a → a ≡ b → n ≡ b
        sum n a b p q = omega arith
