-- A value that is one literal: `only-literal`.
-- Assumes nothing.
use Rattle.std.proofs.lemmas.Option.{some_pair_parts}
use Rattle.std.specs.Prelude.{Option, Some, None}
use Rattle.values.specs.declared.elements.Element.{Element}
use Prim.Native.Nat.{ℕ, ◌+◌}
use native.Mathlib.Omega.{arith}
use mathlib.Core.Path.{◌≡◌, refl, ap, ◌∙◌}
use mathlib.Core.Bool.{Bool, true, false}
use mathlib.Core.List.{List, [], ◌∷◌, append-nil}
use lib.ListN.{length, drop}
use lib.Dec.{leb}
use borrow.Author.Tests.{leb-true, leb-false}
use Rattle.text.specs.Scan.{part}
use Rattle.row.specs.Numbers.{rows_of}
use Rattle.row.specs.Laid.{row_at}
use Rattle.row.proofs.Laid.{laid}
use Rattle.literal.specs.Literal.{Resolved, chunks, resolve_literal}
use Rattle.literal.specs.Literal as literal
use Rattle.resolve.specs.OneLiteral.{value_of}
use Rattle.resolve.specs.Checks.{Lent}
use Rattle.resolve.specs.Runs.{Run, done, of_literal}
use Rattle.values.specs.declared.elements.Element.TheVariants as element
use Rattle.values.specs.Field.{onward, flattened, of_run}
use Rattle.values.specs.Uses.{first_element, only_of, only_at, value_from}
use Rattle.values.specs.OnlyLiteral.{OnlyLiteral}
use Rattle.values.proofs.ways.ElementWays.{from-none, from-literal, spans-from, placed}

-- the first element is the literal, and there is no second
only-both : (v w : Option Element) (a e : ℕ) → only_of v w ≡ Some (a, e) → (v ≡ Some (element.Literal a e)) × (w ≡ None)
only-both (Some (element.Literal b f)) None a e h = let p = some_pair_parts b a f e h in (cc, refl)
only-both (Some (element.Literal b f)) (Some (element.Literal c g)) a e h = let z : ◌≡◌ {A = ℕ} 0 1 = cc in absurd (omega arith)
only-both (Some (element.Literal b f)) (Some (element.Name c g)) a e h = let z : ◌≡◌ {A = ℕ} 0 1 = cc in absurd (omega arith)
only-both (Some (element.Name b f)) w a e h = let z : ◌≡◌ {A = ℕ} 0 1 = cc in absurd (omega arith)
only-both None w a e h = let z : ◌≡◌ {A = ℕ} 0 1 = cc in absurd (omega arith)

module _ (rows : List ℕ) (i a e : ℕ) (h : only_at rows i ≡ Some (a, e)) where
  here : first_element (rows_of (drop i rows)) ≡ Some (element.Literal a e)
  here = (only-both (first_element (rows_of (drop i rows))) (first_element (rows_of (drop (i + 4) rows))) a e h).0

  none-next : first_element (rows_of (drop (i + 4) rows)) ≡ None
  none-next = (only-both (first_element (rows_of (drop i rows))) (first_element (rows_of (drop (i + 4) rows))) a e h).1

  -- the literal's row is one of the rows
  in_rows : rows_of (drop i rows) ≡ row_at rows i ∷ rows_of (drop (i + 4) rows)
  in_rows = by (leb (i + 4) (length rows)) refl
    where
      by : (x : Bool) → leb (i + 4) (length rows) ≡ x → rows_of (drop i rows) ≡ row_at rows i ∷ rows_of (drop (i + 4) rows)
      by true q = laid.rows_next rows i (leb-true (i + 4) (length rows) q)
      by false q =
          let none = ap first_element (laid.rows_end rows i (leb-false (i + 4) (length rows) q)) in
          let is = here in
          let z : ◌≡◌ {A = ℕ} 0 1 = cc in
          absurd (omega arith)

  -- a literal with nothing behind it
  alone : (R : Resolved) (g : ℕ → Run) → g 0 ≡ done [] 0 → of_run (flattened (onward (of_literal R 0) g)) ≡ value_of R
  alone (chunks cs) g k = rw (k, append-nil cs)
  alone (literal.refused f) g k = refl

  one_value : (l : Lent) (verb : Bool) (left : ℕ) (path : List ℕ)
      → of_run (flattened (value_from l verb left path (rows_of (drop i rows)) 0)) ≡ value_of (resolve_literal verb (part l.file a e) a)
  one_value l verb left path =
      ap (λ (run : Run). of_run (flattened run))
      (from-literal l verb left path (rows_of (drop i rows)) (rows_of (drop (i + 4) rows)) (row_at rows i) a e 0 in_rows here)
      ∙ alone (resolve_literal verb (part l.file a e) a) (value_from l verb left path (rows_of (drop (i + 4) rows)))
      (from-none l verb left path (rows_of (drop (i + 4) rows)) 0 none-next)

pub only-literal : OnlyLiteral
only-literal = record {
  inside = λ file rows months words i a e lent whole h.
      let at = placed file rows i (spans-from file rows months words i lent whole) _ refl (Some (element.Literal a e)) (here rows i a e h) in
      (at.1, at.2);
  value = λ l verb left path rows i a e h. one_value rows i a e h l verb left path;
}
