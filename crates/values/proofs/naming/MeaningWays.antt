-- What a name means: the ways through `meaning_of`.
--     means-definition, means-inside      the last definition, and its row is there
--     means-month, means-unknown          what the month list says
-- Assumes nothing.
use Rattle.std.specs.Prelude.{Option, Some, None}
use Prim.Native.Nat.{ℕ, ◌/◌, ◌<◌}
use native.Mathlib.Omega.{arith}
use mathlib.Core.Path.{◌≡◌, refl, sym, subst, ◌∙◌}
use mathlib.Core.List.{List}
use lib.ListN.{length}
use Rattle.text.specs.Scan.{part}
use Rattle.row.specs.declared.form.Kind.TheVariants.{Name}
use Rattle.row.specs.Row.{row}
use Rattle.row.specs.Numbers.{rows_of}
use Rattle.row.proofs.Laid.{laid}
use Rattle.lookup.specs.Names.{last_named}
use Rattle.lookup.proofs.Lookup.{lookup}
use Rattle.resolve.specs.Checks.{lent_of}
use Rattle.values.specs.declared.elements.Meaning.TheVariants as meaning
use Rattle.values.specs.Field.{meaning_of}
use Rattle.values.specs.Uses.{MonthFound, Means}

module _ (file rows months words : List ℕ) (start end : ℕ) where
  -- what the search among the definitions answers
  abbrev searched : Option ℕ
  searched = last_named file (part file start end) (rows_of rows)

  module _ (x : Option ℕ) (e : x ≡ searched) where
    pub means-definition : (i : ℕ) → x ≡ Some i
        → Means words (meaning_of (lent_of file rows months words) (row Name start end)) (Some (meaning.Definition i))
    means-definition i p = rw (sym e ∙ p) refl

    pub means-inside : (i : ℕ) → x ≡ Some i → i < length rows / 4
    means-inside i p = omega (arith, (lookup.found-last file (part file start end) (rows_of rows) i (sym e ∙ p)).below, laid.rows-length rows)

    module _ (n : x ≡ None) (name : List ℕ) (q : name ≡ part file start end) (m : Option (ℕ × ℕ)) (f : MonthFound months words name m) where
      here : (w : Option (ℕ × ℕ)) → m ≡ w → MonthFound months words (part file start end) w
      here w p = subst (λ (l : List ℕ). MonthFound months words l w) q (subst (MonthFound months words name) p f)

      pub means-month : (a b : ℕ) → m ≡ Some (a, b)
          → Means words (meaning_of (lent_of file rows months words) (row Name start end)) (Some (meaning.Month a b))
      means-month a b p = let h = here (Some (a, b)) p in rw (sym e ∙ n, h.0) (refl, h.1, h.2)

      pub means-unknown : m ≡ None → Means words (meaning_of (lent_of file rows months words) (row Name start end)) None
      means-unknown p = rw (sym e ∙ n, here None p) tt
