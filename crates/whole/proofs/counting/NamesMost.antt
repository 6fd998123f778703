-- What names come to at most.
--     either-both                                        `either`
--     months-start, months-on                            `most_of_months`: the beginning, and one month more
--     months-wider                                       the months are within what is wider
--     defined-start, defined-on, defined-other           `most_of_names`: the beginning, and one row more
--     names-end                                          the use of a name comes to no more than its definition, or its month's text
-- Assumes nothing.
use Rattle.std.specs.Prelude.{Option, Some, None}
use Rattle.whole.specs.declared.bound.Most.{Most}
use Prim.Native.Nat.{ℕ, zero, suc, ◌+◌, ◌-◌, ◌*◌, ◌/◌, ◌≤◌, ◌<◌}
use native.Mathlib.Omega.{arith}
use mathlib.Core.Path.{◌≡◌, refl, sym, ap, subst, ◌∙◌}
use mathlib.Core.Bool.{Bool, true, false, cond}
use mathlib.Core.List.{List, [], ◌∷◌, ◌++◌, map}
use lib.ListN.{length, get_or, drop, length-append}
use lib.Dec.{ltb}
use borrow.Author.Count.{below_more}
use borrow.Author.Tests.{ne_eqb}
use Rattle.std.proofs.Common.{Option, Some, None}
use Rattle.text.specs.Scan.{part}
use Rattle.text.specs.SameBytes.{same_bytes}
use Rattle.text.proofs.general.Tests.{both_true, true-not-false}
use Rattle.text.proofs.general.Parts.{part-size}
use Rattle.row.specs.declared.form.Kind.TheVariants.{DefinitionName}
use Rattle.row.specs.declared.fault.Fault.{Fault}
use Rattle.row.specs.Row.{Row}
use Rattle.row.specs.Rules.{is_kind}
use Rattle.row.specs.Numbers.{rows_of}
use Rattle.row.specs.Limits.{most_names}
use Rattle.row.proofs.Laid.{laid}
use Rattle.lookup.specs.Names.{name_of, is_named, last_named, row_no}
use Rattle.lookup.proofs.Lookup.{lookup}
use Rattle.literal.specs.Rows.{texts_of}
use Rattle.resolve.specs.Checks.{Lent, Month, month_in, months_of, lent_of}
use Rattle.resolve.specs.Runs.{Run, done, stop}
use Rattle.values.specs.Field.{Meaning, definition, month, unknown, month_of, or_month, spelt, meaning_of, on_path, known, opened, elements_of, walk, element}
use Rattle.values.specs.Field.{name}
use Rattle.whole.specs.Bounds.{RunAtMost, AtMost, MostOf, SmallMost, Wider, Either, TextMost, MonthsMost, UseAtMost}
use Rattle.whole.proofs.counting.AtMost.{flat-within}

-- ---- what is within a is within what is wider

run_more : (x : Run) (n m p q : ℕ) → n ≤ p → m ≤ q → RunAtMost x n m → RunAtMost x p q
run_more (done cs k) n m p q h i r = (omega (arith, r.0), omega (arith, r.1))
run_more (stop f) n m p q h i r = tt

most-wider : (u : Option Most) (rs : List Row) (r a : Option Most) → Wider r a → MostOf u rs a → MostOf u rs r
most-wider u rs None a w h = tt
most-wider u rs (Some p) (Some a) w h = λ l verb name b k. run_more (walk (element l verb name) _ k) a.rows a.bytes p.rows p.bytes w.0 w.1 (h l verb name b k)
most-wider u rs (Some a) None w h = absurd w

text-wider : (k : ℕ) (r a : Option Most) → Wider r a → TextMost k a → TextMost k r
text-wider k None a w h = tt
text-wider k (Some a) (Some b) w h = (omega (arith, w.0, h.0), omega (arith, w.1, h.1))
text-wider k (Some a) None w h = absurd w

text-less : (k j : ℕ) (u : Option Most) → j ≤ k → TextMost k u → TextMost j u
text-less k j (Some a) i h = (h.0, omega (arith, h.1))
text-less k j None i h = tt

-- ---- months

-- the texts of the first i months are within u
abbrev pub MonthsTo : List ℕ → ℕ → Option Most → Type 0
MonthsTo months i u = (j : ℕ) → j < i → TextMost (get_or months (j * 4 + 3) 0 - get_or months (j * 4 + 2) 0) u

pub months-start : (months : List ℕ) (u : Option Most) → MonthsTo months 0 u
months-start months u j h = absurd (omega arith)

pub months-on : (months : List ℕ) (i : ℕ) (a b r : Option Most) → MonthsTo months i a
    → TextMost (get_or months (i * 4 + 3) 0 - get_or months (i * 4 + 2) 0) b → Either a b r → MonthsTo months (i + 1) r
months-on months i a b r s t e =
    below_more (λ (j : ℕ). TextMost (size j) r) i (λ j h. text-wider (size j) r a e.one (s j h))
    (text-wider (size i) r b e.other t)
  where
    size : ℕ → ℕ
    size j = get_or months (j * 4 + 3) 0 - get_or months (j * 4 + 2) 0

pub months-wider : (months : List ℕ) (a b r : Option Most) → MonthsMost months a → Either a b r → MonthsMost months r
months-wider months a b r s e j h = text-wider (get_or months (j * 4 + 3) 0 - get_or months (j * 4 + 2) 0) r a e.one (s j h)

-- ---- definitions

-- the values of the definitions among the first i rows are within u
abbrev pub DefinedTo : List Row → ℕ → Option Most → Type 0
DefinedTo rs i u = (j : ℕ) → j < i → is_kind DefinitionName (row_no rs j).kind ≡ true → MostOf None (drop (j + 2) rs) u

pub defined-start : (rs : List Row) (u : Option Most) → DefinedTo rs 0 u
defined-start rs u j h = absurd (omega arith)

module _ (rows : List ℕ) (i : ℕ) (a : Option Most) (s : DefinedTo (rows_of rows) i a) where
  abbrev Within : Option Most → ℕ → Type 0
  Within u j = is_kind DefinitionName (row_no (rows_of rows) j).kind ≡ true → MostOf None (drop (j + 2) (rows_of rows)) u

  pub defined-on : (b r : Option Most) → MostOf None (drop (i + 1 + 1) (rows_of rows)) b → Either a b r → DefinedTo (rows_of rows) (i + 1) r
  defined-on b r h e =
      let rs = rows_of rows in
      below_more (Within r) i (λ j k w. most-wider None (drop (j + 2) rs) r a e.one (s j k w))
      (λ w. most-wider None (drop (i + 2) rs) r b e.other (subst (λ (n : ℕ). MostOf None (drop n rs) b) (two i) h))
    where
      two : (i : ℕ) → i + 1 + 1 ≡ i + 2
      two i = omega arith

  pub defined-other : i < length rows / 4 → (get_or rows (i * 4) 0 ≡ 8 → ⊥) → DefinedTo (rows_of rows) (i + 1) a
  defined-other h n =
      let is : Row → Bool = λ r. is_kind DefinitionName r.kind in
      below_more (Within a) i s (λ w. true-not-false (is (row_no (rows_of rows) i)) w (ap is (lookup.row-no rows i h) ∙ ne_eqb (get_or rows (i * 4) 0) 8 n))

-- ---- the use of a name

-- a month's text, whichever word has it
month-within : (words w : List ℕ) (rs : List Row) (u : Option Most) → ((j : ℕ) → j < length rs → TextMost ((row_no rs j).end - (row_no rs j).start) u)
    → (t : List ℕ) → month_of w (map (month_in words) rs) ≡ month t → TextMost (length t) u
unfolding month_of
month-within words w [] u h t e = let z : ◌≡◌ {A = ℕ} 0 1 = cc in absurd (omega arith)
month-within words w (r ∷ rs) u h t e = by (same_bytes (part words r.kind r.detail) w) e (month-within words w rs u (λ j k. h (suc j) (omega arith)) t)
  where
    by : (x : Bool) → cond x (month (part words r.start r.end)) (month_of w (map (month_in words) rs)) ≡ month t
        → (month_of w (map (month_in words) rs) ≡ month t → TextMost (length t) u) → TextMost (length t) u
    by true e f =
        let is : part words r.start r.end ≡ t = cc in
        subst (λ (x : List ℕ). TextMost (length x) u) is
        (text-less (r.end - r.start) (length (part words r.start r.end)) u (part-size words r.start r.end) (h 0 (omega arith)))
    by false e f = f e

not-definition : (w : List ℕ) (ms : List Month) (i : ℕ) → month_of w ms ≡ definition i → ⊥
unfolding month_of
not-definition w [] i e = let z : ◌≡◌ {A = ℕ} 0 1 = cc in omega arith
not-definition w (m ∷ ms) i e = by (same_bytes m.word w) e (not-definition w ms i)
  where
    by : (x : Bool) → cond x (month m.text) (month_of w ms) ≡ definition i → (month_of w ms ≡ definition i → ⊥) → ⊥
    by true e f = let z : ◌≡◌ {A = ℕ} 0 1 = cc in omega arith
    by false e f = f e

module _ (l : Lent) (verb : Bool) (n m : ℕ) (months : (w t : List ℕ) → month_of w l.months ≡ month t → (1 ≤ n) × (length t ≤ m))
    (defined : DefinedTo l.rows (length l.rows) (Some (record { rows = n; bytes = m }))) where
  known-within : (path : List ℕ) (r : Row) (x : Meaning) (go : Run) → RunAtMost go n m → RunAtMost (known path r x go) n m
  known-within path r (definition i) go h = by (on_path i path) _
    where
      by : (w : Bool) (f : Fault) → RunAtMost (cond w (stop f) go) n m
      by true f = tt
      by false f = h
  known-within path r (month t) go h = h
  known-within path r unknown go h = tt

  opened-within : (r : Row) (k : ℕ) (x : Meaning) (value : ℕ → Run) → ((i : ℕ) → x ≡ definition i → RunAtMost (value i) n m)
      → ((t : List ℕ) → x ≡ month t → (1 ≤ n) × (length t ≤ m)) → RunAtMost (opened r k x value) n m
  unfolding texts_of
  opened-within r k (definition i) value h g = h i refl
  opened-within r k (month t) value h g = let s = g t refl in (omega (arith, s.0), omega (arith, s.1, length-append t []))
  opened-within r k unknown value h g = tt

  meaning-month : (r : Row) (t : List ℕ) → meaning_of l r ≡ month t → (1 ≤ n) × (length t ≤ m)
  meaning-month r t = by (last_named l.file (spelt l r) l.rows) (month_of (spelt l r) l.months) (months (spelt l r) t)
    where
      by : (f : Option ℕ) (x : Meaning) → (x ≡ month t → (1 ≤ n) × (length t ≤ m)) → or_month f x ≡ month t → (1 ≤ n) × (length t ≤ m)
      by (Some i) x h e = let z : ◌≡◌ {A = ℕ} 0 1 = cc in absurd (omega arith)
      by None x h e = h e

  meaning-row : (r : Row) (i : ℕ) → meaning_of l r ≡ definition i → last_named l.file (spelt l r) l.rows ≡ Some i
  meaning-row r i = by (last_named l.file (spelt l r) l.rows) (month_of (spelt l r) l.months) (not-definition (spelt l r) l.months i)
    where
      by : (f : Option ℕ) (x : Meaning) → (x ≡ definition i → ⊥) → or_month f x ≡ definition i → f ≡ Some i
      by (Some j) x h e = let is : j ≡ i = cc in ap Some is
      by None x h e = absurd (h e)

  definition-within : (r : Row) (i : ℕ) → meaning_of l r ≡ definition i → AtMost None (drop (i + 2) l.rows) n m
  unfolding is_named
  definition-within r i e =
      let last = lookup.found-last l.file (spelt l r) l.rows i (meaning-row r i e) in
      let row = row_no l.rows i in
      defined i last.below (both_true (is_kind DefinitionName row.kind) (same_bytes (name_of l.file row) (spelt l r)) last.named).0

  name-within : (left : ℕ) (path : List ℕ) (r : Row) (k : ℕ) → RunAtMost (name l verb left path r k) n m
  unfolding name
  name-within zero path r k = known-within path r (meaning_of l r) _ tt
  name-within (suc left) path r k =
      known-within path r (meaning_of l r) _
      (by (ltb k most_names) _ _
      (opened-within r k (meaning_of l r) _
      (λ i e.
      let one = name l verb left (path ++ i ∷ []) in
      flat-within (walk (element l verb one) (elements_of l i) (suc k)) n m (definition-within r i e l verb one tt (suc k)))
      (meaning-month r)))
    where
      by : (w : Bool) (x : Run) (f : Fault) → RunAtMost x n m → RunAtMost (cond w x (stop f)) n m
      by true x f h = h
      by false x f h = tt

pub names-end : (file rows months words : List ℕ) (i : ℕ) (u : Option Most) → MonthsMost months u → length rows / 4 ≤ i → DefinedTo (rows_of rows) i u
    → SmallMost u → UseAtMost (lent_of file rows months words) u
names-end file rows months words i None h k d s = (s, λ _ _ _. tt)
names-end file rows months words i (Some a) h k d s =
    (s, λ verb left path r j. name-within (lent_of file rows months words) verb a.rows a.bytes texts (λ x b. d x (omega (arith, laid.rows-length rows))) left path r j)
  where
    each : (j : ℕ) → j < length (rows_of months) → TextMost ((row_no (rows_of months) j).end - (row_no (rows_of months) j).start) (Some a)
    each j b =
        let c : j < length months / 4 = omega (arith, laid.rows-length months) in
        subst (λ (x : Row). TextMost (x.end - x.start) (Some a)) (sym (lookup.row-no months j c)) (h j c)

    texts : (w t : List ℕ) → month_of w (months_of months words) ≡ month t → (1 ≤ a.rows) × (length t ≤ a.bytes)
    texts w t e = month-within words w (rows_of months) (Some a) each t e
