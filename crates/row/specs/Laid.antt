-- What the definitions of `Row`, `Numbers` and `Spans` settle: laws of rows that are laid over lent numbers, read back from numbers, or moved
-- on in a file, on which the crates above rest. The proof is `laid` of proofs/Laid.antt. Assumes nothing.
use Rattle.std.specs.Prelude.{ℕ, ◌+◌, ◌*◌, ◌/◌, ◌%◌, ◌≤◌, ◌<◌, ◌≡◌, List, [], ◌∷◌, ◌++◌, length, get_or, drop}
use Rattle.row.specs.declared.form.Kind.{Kind}
use Rattle.row.specs.Row.{Row, row_of, row, row_up, moved, flat, put_row, overlay}
use Rattle.row.specs.Numbers.{rows_of}
use Rattle.row.specs.Spans.{SpansIn}

-- the row from number i on
abbrev pub row_at : List ℕ → ℕ → Row
row_at l i = row_of (get_or l i 0) (get_or l (i + 1) 0) (get_or l (i + 2) 0) (get_or l (i + 3) 0)

pub record Laid : Type 0 where
  -- a row is four numbers; the numbers of two lists of rows are one behind the other
  pub flat-length : (rs : List Row) → length (flat rs) ≡ length rs * 4
  pub flat_append : (rs ss : List Row) → flat (rs ++ ss) ≡ flat rs ++ flat ss
  -- from rows to numbers and back; from a whole count of rows' numbers to rows and back
  pub rows-flat : (rs : List Row) → rows_of (flat rs) ≡ rs
  pub flat_rows : (l : List ℕ) → length l % 4 ≡ 0 → flat (rows_of l) ≡ l
  pub rows-length : (l : List ℕ) → length (rows_of l) ≡ length l / 4
  -- the rows from a number on: the row there and those behind it, or none where no whole row is left
  pub rows_next : (l : List ℕ) (i : ℕ) → i + 4 ≤ length l → rows_of (drop i l) ≡ row_at l i ∷ rows_of (drop (i + 4) l)
  pub rows_end : (l : List ℕ) (i : ℕ) → length l < i + 4 → rows_of (drop i l) ≡ []
  -- the rows from a row on
  pub rows-by : (k : ℕ) (l : List ℕ) → drop k (rows_of l) ≡ rows_of (drop (k * 4) l)
  -- rows that all fit stand in front of what the numbers held
  pub overlay-fits : (rs : List Row) (b : List ℕ) → length rs ≤ length b / 4 → overlay b 0 rs ≡ flat rs ++ drop (length rs * 4) b
  -- two lists of rows are laid one after the other; a row may be put before or after the rows behind it
  pub overlay-append : (rs ss : List Row) (b : List ℕ) (n : ℕ) → overlay b n (rs ++ ss) ≡ overlay (overlay b n rs) (n + length rs) ss
  pub put-overlay : (rs : List Row) (b : List ℕ) (m n : ℕ) (x : Row) → m < n → put_row (overlay b n rs) m x ≡ overlay (put_row b m x) n rs
  -- rows moved on in a file: as many as before, each by itself, and the same where they are moved by nothing
  pub moved_length : (d : ℕ) (rs : List Row) → length (moved d rs) ≡ length rs
  pub moved-append : (d : ℕ) (rs ss : List Row) → moved d (rs ++ ss) ≡ moved d rs ++ moved d ss
  pub moved_none : (rs : List Row) → moved 0 rs ≡ rs
  pub row_up_lem : (d : ℕ) (k : Kind) (a e : ℕ) → row k (d + a) (d + e) ≡ row_up d (row k a e)
  -- spans that lie in a file lie in a longer one; so do those of two lists together, and those of rows moved on with the file
  pub spans-more : (n m : ℕ) (rs : List Row) → n ≤ m → SpansIn n rs → SpansIn m rs
  pub spans-append : (n : ℕ) (rs ss : List Row) → SpansIn n rs → SpansIn n ss → SpansIn n (rs ++ ss)
  pub spans-moved : (d n : ℕ) (rs : List Row) → SpansIn n rs → SpansIn (n + d) (moved d rs)
