-- The check of chunk rows.
--     rows-next, rows_end          the rows from row i on: that row and those behind it, or none
--     told                         the test of a row, by the numbers that the code reads
--     starts                       where the loop begins, over rows that all pass
--     check-turn, check-stop       the loop goes on at a row that passes the test, and stops at one that does not
--     check-count, check_done      the answer where the numbers are no whole count of rows; the answer behind the last row
-- Assumes nothing.
use Rattle.std.proofs.Common.{ℕ, ◌+◌, ◌*◌, ◌/◌, ◌%◌, ◌≤◌, ◌<◌, arith, ◌≡◌, refl, sym, ap, ap₂, ◌∙◌, Bool}
use Rattle.std.proofs.Common.{true, false, ◌&&◌, List, [], ◌∷◌, length, get_or, drop, drop_of_length-le, eqb, eqb-true, eq-eqb, ne_eqb}
use Rattle.text.proofs.general.Tests.{both_true}
use Rattle.text.proofs.general.Places.{drop-next, drop_more}
use Rattle.text.specs.Every.{every}
use Rattle.chunk.specs.Chunk.{ChunkRow, chunk_row, chunk_rows, Stores, is_chunk, every_chunk, are_chunks}

-- the row of the five numbers from i on
abbrev pub row_at : List ℕ → ℕ → ChunkRow
row_at l i = chunk_row (get_or l i 0) (get_or l (i + 1) 0) (get_or l (i + 2) 0) (get_or l (i + 3) 0) (get_or l (i + 4) 0)

rows-open : (l : List ℕ) (i : ℕ) → i + 5 ≤ length l → chunk_rows (drop i l) ≡ row_at l i ∷ chunk_rows (drop (i + 5) l)
unfolding chunk_rows
rows-open l i h =
    let second = drop_more l i 1 2 (omega arith) refl in
    let third = drop_more l i 2 3 (omega arith) refl in
    let fourth = drop_more l i 3 4 (omega arith) refl in
    let fifth = drop_more l i 4 5 (omega arith) refl in rw (drop-next l i (omega arith), second, third, fourth, fifth)

pub rows-next : (l : List ℕ) (i : ℕ) → i < length l / 5 → chunk_rows (drop (i * 5) l) ≡ row_at l (i * 5) ∷ chunk_rows (drop ((i + 1) * 5) l)
rows-next l i h = let e : (i + 1) * 5 ≡ i * 5 + 5 = omega arith in rw e (rows-open l (i * 5) (omega (arith, h)))

pub rows_end : (l : List ℕ) (i : ℕ) → length l % 5 ≡ 0 → length l / 5 ≤ i → chunk_rows (drop (i * 5) l) ≡ []
unfolding chunk_rows
rows_end l i e h = ap chunk_rows (drop_of_length-le l (omega (arith, e, h)))

-- the test answers the same for the row at i and for the numbers that the code reads
pub told : (t l : List ℕ) {i k a e : ℕ} {x : Bool} → Stores l i k a e → is_chunk t (chunk_row k a e 0 0) ≡ x → is_chunk t (row_at l i) ≡ x
told t l {i} {k} {a} {e} r h =
    let two = ap₂ (λ (x y : ℕ). is_chunk t (chunk_row x y e 0 0)) r.kind r.from in
    sym (two ∙ ap (λ (y : ℕ). is_chunk t (chunk_row (get_or l i 0) (get_or l (i + 1) 0) y 0 0)) r.to) ∙ h

-- ---- the loop, where the rows before row i passed the test

pub record Checking (t l : List ℕ) (i : ℕ) : Type 0 where
  pub same : every_chunk t (chunk_rows (drop (i * 5) l)) ≡ are_chunks t l
  pub whole : length l % 5 ≡ 0

pub checking : (t l : List ℕ) → length l % 5 ≡ 0 → Checking t l 0
unfolding are_chunks
checking t l h = record { same = rw (eq-eqb (length l % 5) 0 h) refl; whole = h }

pub starts : (t l : List ℕ) → are_chunks t l ≡ true → Checking t l 0
unfolding are_chunks
starts t l e = checking t l (eqb-true (length l % 5) 0 (both_true (eqb (length l % 5) 0) (every_chunk t (chunk_rows l)) e).0)

module _ {t l : List ℕ} {i : ℕ} (g : Checking t l i) where
  module _ (h : i < length l / 5) where
    pub opened : is_chunk t (row_at l (i * 5)) && every_chunk t (chunk_rows (drop ((i + 1) * 5) l)) ≡ are_chunks t l
    unfolding every
    opened = sym (ap (every_chunk t) (rows-next l i h)) ∙ g.same

    pub check-turn : is_chunk t (row_at l (i * 5)) ≡ true → Checking t l (i + 1)
    check-turn e = record { same = rw e at opened; whole = g.whole }

    pub check-stop : is_chunk t (row_at l (i * 5)) ≡ false → false ≡ are_chunks t l
    check-stop e = rw e at opened

  pub check_done : length l / 5 ≤ i → true ≡ are_chunks t l
  unfolding every
  check_done h = sym (ap (every_chunk t) (rows_end l i g.whole h)) ∙ g.same

pub check-count : (t l : List ℕ) → (length l % 5 ≡ 0 → ⊥) → false ≡ are_chunks t l
unfolding are_chunks
check-count t l h = rw (ne_eqb (length l % 5) 0 h) refl
