-- The elements of a value, row by row.
--     element-end, element-literal, element-name, element-other      the ways through `element_at` of src/elements.rt
--     only-one                                                       the way through `only_literal` at a literal alone
--     ElementPlaced, placed, spans-from                              where an element stands
--     from-none, from-literal                                        the elements from a row on
--     value-end                                                      the way through `value` where no element is left
--     literal-on, literal-stopped, name-on, name-stopped             the ways through `value` at a literal and at a name
--     ready-value-on                                                 what `value` requires holds further on
-- Assumes nothing.
use Rattle.values.specs.declared.resolver.Resolver.{Resolver}
use Rattle.std.specs.Prelude.{Option, Some, None, is_some, Result, Ok, Err}
use Rattle.values.specs.declared.elements.Element.{Element}
use Prim.Native.Nat.{ℕ, zero, suc, ◌+◌, ◌*◌, ◌/◌, ◌%◌, ◌≤◌, ◌<◌}
use native.Mathlib.Omega.{arith}
use mathlib.Core.Path.{◌≡◌, refl, sym, ap, subst, ◌∙◌}
use mathlib.Core.Bool.{Bool, true, false, cond, ◌||◌}
use mathlib.Core.List.{List, [], ◌∷◌, ◌++◌}
use lib.ListN.{length, get_or, drop}
use lib.Dec.{leb, ltb}
use borrow.Author.Tests.{leb-true, leb-false, eq-eqb, ne_eqb}
use Rattle.text.specs.Scan.{part}
use Rattle.text.proofs.general.Tests.{both_true, true-not-false}
use Rattle.text.specs.Every.{every}
use Rattle.text.proofs.general.Lists.{every_drop}
use Rattle.row.specs.declared.fault.Fault.{Fault}
use Rattle.row.specs.declared.fault.Reason.TheVariants.{TooDeep, TooManyNames}
use Rattle.row.specs.declared.form.Kind.TheVariants.{Literal, Name}
use Rattle.row.specs.Row.{Row, row}
use Rattle.row.specs.Rules.{is_kind}
use Rattle.row.specs.Numbers.{rows_of, are_rows}
use Rattle.row.specs.Laid.{row_at}
use Rattle.row.proofs.Laid.{laid}
use Rattle.row.specs.Limits.{most_names}
use Rattle.literal.specs.Literal.{resolve_literal}
use Rattle.resolve.specs.declared.progress.Progress.{Progress}
use Rattle.resolve.specs.OneLiteral.{is_span}
use Rattle.resolve.specs.Checks.{Lent, every_span, are_months, are_lent}
use Rattle.resolve.specs.Runs.{Run, done, of_literal}
use Rattle.resolve.specs.Progress.{SaysRun}
use Rattle.resolve.proofs.Asking.{asking}
use Rattle.values.specs.declared.elements.Element.TheVariants as element
use Rattle.values.specs.Field.{onward, walk, elements, Meaning, definition}
use Rattle.values.specs.Field.{month, unknown, meaning_of, known, opened, at_use, elements_of, parse_field, name}
use Rattle.values.specs.Field as field
use Rattle.values.specs.Uses.{first_element, only_of, value_from, ReadyValue}
use Rattle.values.proofs.ways.RunWays.{says-end, says_on, says-stopped}

-- ---- `element_at`

module _ (rows : List ℕ) (i : ℕ) where
  pub element-end : length rows < i + 4 → None ≡ first_element (rows_of (drop i rows))
  element-end h = rw (laid.rows_end rows i h)

  module _ (h : i + 4 ≤ length rows) where
    pub element-literal : get_or rows i 0 ≡ 6 → Some (element.Literal (get_or rows (i + 2) 0) (get_or rows (i + 3) 0)) ≡ first_element (rows_of (drop i rows))
    element-literal k = rw (laid.rows_next rows i h, eq-eqb (get_or rows i 0) 6 k)

    pub element-name : (get_or rows i 0 ≡ 6 → ⊥) → get_or rows i 0 ≡ 7
        → Some (element.Name (get_or rows (i + 2) 0) (get_or rows (i + 3) 0)) ≡ first_element (rows_of (drop i rows))
    element-name n k = rw (laid.rows_next rows i h, ne_eqb (get_or rows i 0) 6 n, eq-eqb (get_or rows i 0) 7 k)

    pub element-other : (get_or rows i 0 ≡ 6 → ⊥) → (get_or rows i 0 ≡ 7 → ⊥) → None ≡ first_element (rows_of (drop i rows))
    element-other n m = rw (laid.rows_next rows i h, ne_eqb (get_or rows i 0) 6 n, ne_eqb (get_or rows i 0) 7 m)

-- ---- `only_literal`

pub only-one : (v w : Option Element) (a e : ℕ) → v ≡ Some (element.Literal a e) → is_some w ≡ false → Some (a, e) ≡ only_of v w
only-one v None a e p q = rw p
only-one v (Some d) a e p q = true-not-false true refl q

-- ---- where elements stand

pub spans-from : (file rows months words : List ℕ) (i : ℕ) → are_lent file rows months words ≡ true → i % 4 ≡ 0 → every_span file (rows_of (drop i rows)) ≡ true
unfolding are_lent
spans-from file rows months words i h m =
    let spans = (both_true (every_span file (rows_of rows)) (are_months months words) (both_true (are_rows rows) _ h).1).0 in
    ap (λ (rs : List Row). every_span file rs) (sym (laid.rows-by (i / 4) rows ∙ ap (λ (n : ℕ). rows_of (drop n rows)) (whole i m)))
    ∙ every_drop (λ (r : Row). is_span file r.start r.end) (i / 4) (rows_of rows) spans
  where
    whole : (i : ℕ) → i % 4 ≡ 0 → i / 4 * 4 ≡ i
    whole i m = omega arith

pub months-of : (file rows months words : List ℕ) → are_lent file rows months words ≡ true → are_months months words ≡ true
unfolding are_lent
months-of file rows months words h = (both_true (every_span file (rows_of rows)) (are_months months words) (both_true (are_rows rows) _ h).1).1

-- the element at number i is a row with a span in the file, and so are the rows behind it
abbrev pub ElementSpan : List ℕ → List ℕ → ℕ → ℕ → ℕ → Type 0
ElementSpan file rows i a e = (i + 4 ≤ length rows) × (a ≤ e) × (e ≤ length file) × (every_span file (rows_of (drop (i + 4) rows)) ≡ true)

abbrev pub ElementPlaced : List ℕ → List ℕ → ℕ → Option Element → Type 0
ElementPlaced file rows i (Some (element.Literal a e)) = ElementSpan file rows i a e
ElementPlaced file rows i (Some (element.Name a e)) = ElementSpan file rows i a e
ElementPlaced file rows i None = Unit {0}

pub placed : (file rows : List ℕ) (i : ℕ) → every_span file (rows_of (drop i rows)) ≡ true → (v : Option Element) → v ≡ first_element (rows_of (drop i rows))
    → (w : Option Element) → v ≡ w → ElementPlaced file rows i w
unfolding every
placed file rows i h v p w q = subst (ElementPlaced file rows i) (sym p ∙ q) (by (leb (i + 4) (length rows)) refl)
  where
    at_row : (r : Row) (x y : Bool) → ElementSpan file rows i r.start r.end
        → ElementPlaced file rows i (cond x (Some (element.Literal r.start r.end)) (cond y (Some (element.Name r.start r.end)) None))
    at_row r true y p = p
    at_row r false true p = p
    at_row r false false p = tt

    both : i + 4 ≤ length rows
        → (is_span file (get_or rows (i + 2) 0) (get_or rows (i + 3) 0) ≡ true) × (every_span file (rows_of (drop (i + 4) rows)) ≡ true)
    both l =
        both_true (is_span file (get_or rows (i + 2) 0) (get_or rows (i + 3) 0)) (every_span file (rows_of (drop (i + 4) rows)))
        (sym (ap (λ (rs : List Row). every_span file rs) (laid.rows_next rows i l)) ∙ h)

    by : (x : Bool) → leb (i + 4) (length rows) ≡ x → ElementPlaced file rows i (first_element (rows_of (drop i rows)))
    by true e =
        let l = leb-true (i + 4) (length rows) e in
        let ends = asking.span-ends file (get_or rows (i + 2) 0) (get_or rows (i + 3) 0) (both l).0 in
        subst (λ (rs : List Row). ElementPlaced file rows i (first_element rs)) (sym (laid.rows_next rows i l))
        (at_row (row_at rows i) (is_kind Literal (get_or rows i 0)) (is_kind Name (get_or rows i 0)) (l, ends.0, ends.1, (both l).1))
    by false e =
        subst (λ (rs : List Row). ElementPlaced file rows i (first_element rs)) (sym (laid.rows_end rows i (leb-false (i + 4) (length rows) e))) tt

-- ---- what a first element comes to

module _ (r : Row) (rs : List Row) where
  literal-row : (a e : ℕ) → first_element (r ∷ rs) ≡ Some (element.Literal a e) → (is_kind Literal r.kind ≡ true) × (r.start ≡ a) × (r.end ≡ e)
  literal-row a e = by (is_kind Literal r.kind) (is_kind Name r.kind)
    where
      by : (x y : Bool) → cond x (Some (element.Literal r.start r.end)) (cond y (Some (element.Name r.start r.end)) None) ≡ Some (element.Literal a e)
          → (x ≡ true) × (r.start ≡ a) × (r.end ≡ e)
      by true y h = (refl, cc, cc)
      by false true h = let z : ◌≡◌ {A = ℕ} 0 1 = cc in absurd (omega arith)
      by false false h = let z : ◌≡◌ {A = ℕ} 0 1 = cc in absurd (omega arith)

  name-row : (a e : ℕ) → first_element (r ∷ rs) ≡ Some (element.Name a e)
      → (is_kind Literal r.kind ≡ false) × (is_kind Name r.kind ≡ true) × (r.start ≡ a) × (r.end ≡ e)
  name-row a e = by (is_kind Literal r.kind) (is_kind Name r.kind)
    where
      by : (x y : Bool) → cond x (Some (element.Literal r.start r.end)) (cond y (Some (element.Name r.start r.end)) None) ≡ Some (element.Name a e)
          → (x ≡ false) × (y ≡ true) × (r.start ≡ a) × (r.end ≡ e)
      by true y h = let z : ◌≡◌ {A = ℕ} 0 1 = cc in absurd (omega arith)
      by false true h = (refl, refl, cc, cc)
      by false false h = let z : ◌≡◌ {A = ℕ} 0 1 = cc in absurd (omega arith)

  no_row : first_element (r ∷ rs) ≡ None → (is_kind Literal r.kind || is_kind Name r.kind) ≡ false
  no_row = by (is_kind Literal r.kind) (is_kind Name r.kind)
    where
      by : (x y : Bool) → cond x (Some (element.Literal r.start r.end)) (cond y (Some (element.Name r.start r.end)) None) ≡ None
          → (x || y) ≡ false
      by true y h = let z : ◌≡◌ {A = ℕ} 0 1 = cc in absurd (omega arith)
      by false true h = let z : ◌≡◌ {A = ℕ} 0 1 = cc in absurd (omega arith)
      by false false h = refl

-- the value of the definition in row i, as the definition has it
abbrev pub inside : Lent → Bool → ℕ → List ℕ → ℕ → ℕ → Run
inside l verb left path n i = parse_field (field.element l verb (name l verb left (path ++ i ∷ []))) (elements_of l i) (suc n)

-- what a name comes to depends on its place alone
name-at : (l : Lent) (verb : Bool) (left : ℕ) (path : List ℕ) (r : Row) (n : ℕ)
    → name l verb left path r n ≡ name l verb left path (row Name r.start r.end) n
unfolding name
name-at l verb zero path r n = by (meaning_of l r)
  where
    by : (m : Meaning) → known path r m (at_use TooDeep r) ≡ known path (row Name r.start r.end) m (at_use TooDeep r)
    by (definition i) = refl
    by (month t) = refl
    by unknown = refl
name-at l verb (suc left) path r n = by (meaning_of l r)
  where
    by : (m : Meaning) → known path r m (cond (ltb n most_names) (opened r n m (inside l verb left path n)) (at_use TooManyNames r))
        ≡ known path (row Name r.start r.end) m
        (cond (ltb n most_names) (opened (row Name r.start r.end) n m (inside l verb left path n)) (at_use TooManyNames r))
    by (definition i) = refl
    by (month t) = refl
    by unknown = refl

module _ (l : Lent) (verb : Bool) (left : ℕ) (path : List ℕ) where
  abbrev from : List Row → ℕ → Run
  from rs n = value_from l verb left path rs n

  pub from-none : (rs : List Row) (n : ℕ) → first_element rs ≡ None → from rs n ≡ done [] n
  unfolding walk elements
  from-none [] n h = refl
  from-none (r ∷ rs) n h = rw (no_row r rs h)

  pub from-literal : (rs ss : List Row) (r : Row) (a e n : ℕ) → rs ≡ r ∷ ss → first_element rs ≡ Some (element.Literal a e)
      → from rs n ≡ onward (of_literal (resolve_literal verb (part l.file a e) a) n) (from ss)
  unfolding walk elements
  from-literal rs ss r a e n p h =
      let t = literal-row r ss a e (sym (ap first_element p) ∙ h) in
      rw (p, t.0, t.0, t.1, t.2)

  from-name : (rs ss : List Row) (r : Row) (a e n : ℕ) → rs ≡ r ∷ ss → first_element rs ≡ Some (element.Name a e)
      → from rs n ≡ onward (name l verb left path (row Name a e) n) (from ss)
  unfolding walk elements
  from-name rs ss r a e n p h =
      let t = name-row r ss a e (sym (ap first_element p) ∙ h) in
      rw (p, t.0, t.1, t.0, name-at l verb left path r n, t.2, t.3)

-- ---- the ways through `value`

module _ (l : Lent) (verb : Bool) (left : ℕ) (path rows : List ℕ) (i : ℕ) (st : Progress) (b t : List ℕ) where
  abbrev here : Run
  here = value_from l verb left path (rows_of (drop i rows)) st.names

  abbrev next : ℕ → Run
  next n = value_from l verb left path (rows_of (drop (i + 4) rows)) n

  pub value-end : (v : Option Element) → v ≡ first_element (rows_of (drop i rows)) → v ≡ None → SaysRun here st b t (Ok st) b t
  value-end v p q = says-end here st b t (from-none l verb left path (rows_of (drop i rows)) st.names (sym p ∙ q))

  module _ (v : Option Element) (p : v ≡ first_element (rows_of (drop i rows))) (a e : ℕ) (room : i + 4 ≤ length rows) (r : Result Progress Fault) (b₁ t₁ : List ℕ) where
    -- the element comes to a run, and then the others
    turn_on : (run : Run) → here ≡ onward run next → SaysRun run st b t r b₁ t₁ → (st₁ : Progress) → r ≡ Ok st₁ → (r₂ : Result Progress Fault) (b₂ t₂ : List ℕ)
        → SaysRun (next st₁.names) st₁ b₁ t₁ r₂ b₂ t₂ → SaysRun here st b t r₂ b₂ t₂
    turn_on run x k st₁ y r₂ b₂ t₂ z =
        subst (λ (run : Run). SaysRun run st b t r₂ b₂ t₂) (sym x)
        (says_on st b t st₁ b₁ t₁ r₂ b₂ t₂ run next (subst (λ (r : Result Progress Fault). SaysRun run st b t r b₁ t₁) y k) z)

    turn_stopped : (run : Run) → here ≡ onward run next → SaysRun run st b t r b₁ t₁ → (f : Fault) → r ≡ Err f
        → SaysRun here st b t (Err f) b₁ t₁
    turn_stopped run x k f y =
        subst (λ (run : Run). SaysRun run st b t (Err f) b₁ t₁) (sym x)
        (says-stopped run next st b t f b₁ t₁ (subst (λ (r : Result Progress Fault). SaysRun run st b t r b₁ t₁) y k))

    module _ (q : v ≡ Some (element.Literal a e)) (s : List ℕ) (w : s ≡ part l.file a e)
        (k : SaysRun (of_literal (resolve_literal verb s a) st.names) st b t r b₁ t₁) where
      literal-here : here ≡ onward (of_literal (resolve_literal verb s a) st.names) next
      literal-here =
          from-literal l verb left path (rows_of (drop i rows)) (rows_of (drop (i + 4) rows)) (row_at rows i) a e st.names (laid.rows_next rows i room)
          (sym p ∙ q)
          ∙ ap (λ (u : List ℕ). onward (of_literal (resolve_literal verb u a) st.names) next) (sym w)

      pub literal-on : (st₁ : Progress) → r ≡ Ok st₁ → (r₂ : Result Progress Fault) (b₂ t₂ : List ℕ) → SaysRun (next st₁.names) st₁ b₁ t₁ r₂ b₂ t₂
          → SaysRun here st b t r₂ b₂ t₂
      literal-on = turn_on (of_literal (resolve_literal verb s a) st.names) literal-here k

      pub literal-stopped : (f : Fault) → r ≡ Err f → SaysRun here st b t (Err f) b₁ t₁
      literal-stopped = turn_stopped (of_literal (resolve_literal verb s a) st.names) literal-here k

    module _ (q : v ≡ Some (element.Name a e)) (path₁ : List ℕ) (w : path₁ ≡ path)
        (k : SaysRun (name l verb left path₁ (row Name a e) st.names) st b t r b₁ t₁) where
      name-here : here ≡ onward (name l verb left path₁ (row Name a e) st.names) next
      name-here =
          from-name l verb left path (rows_of (drop i rows)) (rows_of (drop (i + 4) rows)) (row_at rows i) a e st.names (laid.rows_next rows i room)
          (sym p ∙ q)
          ∙ ap (λ (u : List ℕ). onward (name l verb left u (row Name a e) st.names) next) (sym w)

      pub name-on : (st₁ : Progress) → r ≡ Ok st₁ → (r₂ : Result Progress Fault) (b₂ t₂ : List ℕ) → SaysRun (next st₁.names) st₁ b₁ t₁ r₂ b₂ t₂
          → SaysRun here st b t r₂ b₂ t₂
      name-on = turn_on (name l verb left path₁ (row Name a e) st.names) name-here k

      pub name-stopped : (f : Fault) → r ≡ Err f → SaysRun here st b t (Err f) b₁ t₁
      name-stopped = turn_stopped (name l verb left path₁ (row Name a e) st.names) name-here k

-- ---- what `value` requires holds further on

pub ready-value-on : (r : Resolver) (w held : List ℕ) (left : ℕ) (w' held' : List ℕ)
    → ReadyValue r w held left → length w' ≡ length w → length held' ≡ length held
    → ReadyValue r w' held' left
ready-value-on r w held left w' held' h e f = record {
  index = h.index;
  ready = asking.ready_on w r.tables.names.now r.tables.marks.now w' h.ready e;
  path = (f ∙ h.path.0, h.path.1);
}
