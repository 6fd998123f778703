-- Row i of numbers that are rows.
--     row-no                  it is made of the four numbers from i * 4 on
--     kind-by, name_by        its kind, and its name
--     named-not, named-if     whether it is a definition of a name, by what the code tests
-- Assumes nothing.
use Rattle.std.proofs.Common.{ℕ, zero, suc, ◌+◌, ◌*◌, ◌/◌, ◌≤◌, ◌<◌, arith, ◌≡◌, ap, ◌∙◌, Bool, false, List, length, get_or, drop, eq-eqb, ne_eqb}
use Rattle.text.specs.Scan.{part}
use Rattle.row.specs.Row.{Row}
use Rattle.row.specs.Numbers.{rows_of}
use Rattle.row.specs.Laid.{row_at}
use Rattle.row.proofs.Laid.{laid}
use Rattle.text.specs.SameBytes.{same_bytes}
use Rattle.lookup.specs.Names.{name_of, is_named, row_no}

row_from : (i j : ℕ) (l : List ℕ) → j + i * 4 + 4 ≤ length l → row_no (rows_of (drop j l)) i ≡ row_at l (j + i * 4)
row_from zero j l h = let e : j + 0 * 4 ≡ j = omega arith in rw (laid.rows_next l j (omega arith), e)
row_from (suc i) j l h =
    let e : j + suc i * 4 ≡ j + 4 + i * 4 = omega arith in
    rw (laid.rows_next l j (omega arith), e) (row_from i (j + 4) l (omega arith))

pub row-no : (l : List ℕ) (i : ℕ) → i < length l / 4 → row_no (rows_of l) i ≡ row_at l (i * 4)
row-no l i h = let e : 0 + i * 4 ≡ i * 4 = omega arith in row_from i 0 l (omega arith) ∙ ap (row_at l) e

module _ (file rows : List ℕ) (i : ℕ) (inside : i < length rows / 4) where
  pub kind-by : (row_no (rows_of rows) i).kind ≡ get_or rows (i * 4) 0
  kind-by = ap (λ (r : Row). r.kind) (row-no rows i inside)

  pub name_by : (start end : ℕ) → start ≡ get_or rows (i * 4 + 2) 0 → end ≡ get_or rows (i * 4 + 3) 0 → part file start end ≡ name_of file (row_no (rows_of rows) i)
  name_by start end p q = rw (row-no rows i inside, p, q)

  pub named-not : (name : List ℕ) → (get_or rows (i * 4) 0 ≡ 8 → ⊥) → false ≡ is_named file name (row_no (rows_of rows) i)
  unfolding is_named
  named-not name n = rw (row-no rows i inside, ne_eqb (get_or rows (i * 4) 0) 8 n)

  pub named-if : (name s : List ℕ) (r : Bool) → get_or rows (i * 4) 0 ≡ 8 → s ≡ name_of file (row_no (rows_of rows) i) → r ≡ same_bytes s name →
      r ≡ is_named file name (row_no (rows_of rows) i)
  unfolding is_named
  named-if name s r k e t = rw (kind-by, eq-eqb (get_or rows (i * 4) 0) 8 k, t, e)
