-- A turn of the row check, for each way through its code.
--     await-back, or-wrong      the code's states stand for what may come next
--     begun-else                a kind that begins neither a part nor a field breaks the rules
--     turn, ended               what is left to judge after a row; the answer after the last row
--     named_value, named_other  after a field's or definition's name: a value row stands there, or something else
--     bad-rows, bad-count       rows that break the rules are refused, and numbers that are no whole number of rows
-- Assumes nothing.
use Rattle.std.specs.Prelude.{Option, Some, None, Ok, Err}
use Rattle.row.specs.declared.fault.Reason.TheVariants.{BadRows}
use Prim.Native.Nat.{ℕ, ◌+◌, ◌%◌, ◌≤◌}
use native.Mathlib.Omega.{arith}
use mathlib.Core.Path.{◌≡◌, refl, sym, ap, ◌∙◌}
use mathlib.Core.Bool.{Bool, true, false, cond, ◌&&◌}
use mathlib.Core.List.{List, [], ◌∷◌}
use lib.ListN.{length, drop}
use lib.Dec.{eqb, leb}
use borrow.Author.Tests.{leb-true, leb-false, eqb-true, ne_eqb}
use Rattle.row.specs.declared.check.State.{State}
use Rattle.row.specs.declared.check.State.TheVariants as state
use Rattle.row.specs.Row.{Row}
use Rattle.row.specs.Rules.{Await, part, type, key, value, chunk, chunks, cause, wrong, is_detail, begun, next, run, whole, is_rows}
use Rattle.row.specs.Numbers.{rows_of, are_rows, check_of, await_of, state_of, whole_of, or_wrong, found_of}
use Rattle.row.specs.Laid.{row_at}
use Rattle.row.specs.Ruled.{after_row}
use Rattle.row.proofs.numbers.Flat.{rows_next, rows_end}
use Rattle.row.proofs.rules.Append.{run-wrong}

-- ---- the code's states

pub await-back : (a : Await) → await_of (state_of a) ≡ a
await-back (part f) = refl
await-back type = refl
await-back key = refl
await-back (value f) = refl
await-back (chunk f) = refl
await-back (chunks f) = refl
await-back cause = refl
await-back wrong = refl

pub or-wrong : (b : Bool) (a : Await) → or_wrong b (state_of a) ≡ state_of (cond b a wrong)
or-wrong true a = refl
or-wrong false a = refl

pub begun-field : (f : Bool) → or_wrong f (state.Value true) ≡ state_of (begun f 4)
begun-field true = refl
begun-field false = refl

module _ (f : Bool) (n : ℕ) (p0 : n ≡ 0 → ⊥) (p1 : n ≡ 1 → ⊥) (p4 : n ≡ 4 → ⊥) (p8 : n ≡ 8 → ⊥) (p9 : n ≡ 9 → ⊥) where
  pub begun-else : begun f n ≡ wrong
  begun-else = rw (ne_eqb n 1 p1, ne_eqb n 4 p4, ne_eqb n 8 p8, ne_eqb n 0 p0, ne_eqb n 9 p9)

-- ---- where a value row must stand

taken-row : (i j : ℕ) (f : Bool) (r : Row) (rs : List Row) → found_of i (r ∷ rs) ≡ Some j
    → (j ≡ i + 4) × (run (value f) (r ∷ rs) ≡ run (chunk f) rs)
unfolding run next found_of
taken-row i j f r rs = by (eqb r.kind 5) (eqb r.detail 0) refl refl
  where
    by : (b c : Bool) → eqb r.kind 5 ≡ b → eqb r.detail 0 ≡ c → cond (b && c) (Some (i + 4)) None ≡ Some j
        → (j ≡ i + 4) × (run (after_row (value f) r.kind r.detail) rs ≡ run (chunk f) rs)
    by true true p q e = (cc, rw (eqb-true r.kind 5 p, eqb-true r.detail 0 q))
    by true false p q e = let z : ◌≡◌ {A = ℕ} 0 1 = cc in absurd (omega arith)
    by false c p q e = let z : ◌≡◌ {A = ℕ} 0 1 = cc in absurd (omega arith)

not_found : (i j : ℕ) → found_of i [] ≡ Some j → ⊥
unfolding found_of
not_found i j e = let z : ◌≡◌ {A = ℕ} 0 1 = cc in omega arith

refused-row : (i : ℕ) (f : Bool) (rs : List Row) → found_of i rs ≡ None → whole (run (value f) rs) ≡ false
unfolding run next found_of
refused-row i f [] e = refl
refused-row i f (r ∷ rs) e = by (eqb r.kind 5) (eqb r.detail 0) refl refl e
  where
    on : (b : Bool) → whole (run (cond b wrong wrong) rs) ≡ false
    on true = ap whole (run-wrong rs)
    on false = ap whole (run-wrong rs)

    by : (b c : Bool) → eqb r.kind 5 ≡ b → eqb r.detail 0 ≡ c → cond (b && c) (Some (i + 4)) None ≡ None
        → whole (run (cond (is_detail r.kind r.detail) (cond (eqb r.kind 5) (chunk f) wrong) wrong) rs) ≡ false
    by true true p q e = let z : ◌≡◌ {A = ℕ} 0 1 = cc in absurd (omega arith)
    by true false p q e = rw (eqb-true r.kind 5 p, q) (ap whole (run-wrong rs))
    by false c p q e = rw p (on (is_detail r.kind r.detail))

-- ---- one turn of the check at number i

-- whether all rows keep the rules comes down to the rows from number i on, where a is awaited
abbrev pub Left : List ℕ → Await → ℕ → Type 0
Left l a i = whole (run (part false) (rows_of l)) ≡ whole (run a (rows_of (drop i l)))

-- the state r follows the state s after the row from number i on
abbrev StateAfter : List ℕ → ℕ → State → State → Type 0
StateAfter l i s r = r ≡ state_of (after_row (await_of s) (row_at l i).kind (row_at l i).detail)

module _ (l : List ℕ) (i : ℕ) where
  pub turn : (s r : State) → i + 4 ≤ length l → StateAfter l i s r → Left l (await_of s) i → Left l (await_of r) (i + 4)
  unfolding run
  turn s r h e o = rw (e, await-back) (rw (rows_next l i h) at o)

  -- a value row stands at i, and j is the number behind it
  abbrev Taken : Bool → ℕ → Type 0
  Taken f j = ((j ≡ i + 4) × (i + 4 ≤ length l)) × Left l (chunk f) j

  taken : (f : Bool) (j : ℕ) → found_of i (rows_of (drop i l)) ≡ Some j → Left l (value f) i → Taken f j
  taken f j e o = by (leb (i + 4) (length l)) refl
    where
      by : (b : Bool) → leb (i + 4) (length l) ≡ b → Taken f j
      by true h =
          let h' = leb-true (i + 4) (length l) h in
          let x = taken-row i j f (row_at l i) (rows_of (drop (i + 4) l)) (rw (rows_next l i h') at e) in
          ((x.0, h'), rw x.0 (rw (rows_next l i h', x.1) at o))
      by false h = absurd (not_found i j (rw (rows_end l i (leb-false (i + 4) (length l) h)) at e))

  refused : (f : Bool) → found_of i (rows_of (drop i l)) ≡ None → Left l (value f) i → whole (run (part false) (rows_of l)) ≡ false
  refused f e o = o ∙ refused-row i f (rows_of (drop i l)) e

  -- after the last row
  pub ended : (s : State) → length l ≤ i → length l % 4 ≡ 0 → Left l (await_of s) i → cond (whole_of s) (Ok tt) (Err BadRows) ≡ check_of l
  unfolding are_rows is_rows run
  ended s h e o = rw (e, o, rows_end l i (omega arith))

-- after a name: a value row, or something else
module _ (l : List ℕ) (i : ℕ) (s r : State) (f : Bool) (v : Option ℕ) (h : i + 4 ≤ length l) (e : StateAfter l i s r) (p : r ≡ state.Value f)
    (q : v ≡ found_of (i + 4) (rows_of (drop (i + 4) l))) (o : Left l (await_of s) i) where
  named : Left l (value f) (i + 4)
  named = rw p at (turn l i s r h e o)

  pub named_value : (j : ℕ) → v ≡ Some j → Taken l (i + 4) f j
  named_value j t = taken l (i + 4) f j (sym q ∙ t) named

  pub named_other : v ≡ None → whole (run (part false) (rows_of l)) ≡ false
  named_other t = refused l (i + 4) f (sym q ∙ t) named

pub bad-rows : (l : List ℕ) → length l % 4 ≡ 0 → whole (run (part false) (rows_of l)) ≡ false → Err BadRows ≡ check_of l
unfolding are_rows is_rows
bad-rows l e o = rw (e, o)

pub bad-count : (l : List ℕ) → (length l % 4 ≡ 0 → ⊥) → Err BadRows ≡ check_of l
unfolding are_rows
bad-count l h = rw (ne_eqb (length l % 4) 0 h)
