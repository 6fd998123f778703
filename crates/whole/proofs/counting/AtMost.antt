-- What the elements of a value come to at most.
--     flat-within                              flattened chunks are no more than they were
--     none-most, literal-most, name-most       no element more, a literal, and a name
--     spans, sums                              the tests of `most_of`
--     summed-none, summed_one, summed-end    `most_of`: the beginning, one element more, and the end
--     field-under                              a value comes to no more than its elements
-- Assumes nothing.
use Rattle.std.specs.Prelude.{Option, Some, None}
use Rattle.values.specs.declared.elements.Element.{Element}
use Rattle.whole.specs.declared.bound.Most.{Most}
use Prim.Native.Nat.{ℕ, suc, ◌+◌, ◌-◌, ◌*◌, ◌≤◌}
use native.Mathlib.Omega.{arith}
use native.Mathlib.Numerals.{add-one}
use mathlib.Core.Path.{◌≡◌, refl, sym, ap, subst, ◌∙◌}
use mathlib.Core.Bool.{Bool, true, false, cond, ◌||◌}
use mathlib.Core.List.{List, [], ◌∷◌}
use lib.ListN.{length, drop, length-append}
use lib.Dec.{leb, ltb}
use borrow.Author.Tests.{leb-true, leb-false, ltb-false}
use Rattle.text.specs.Scan.{part}
use Rattle.text.proofs.general.Tests.{both_false}
use Rattle.text.proofs.general.Parts.{part-size}
use Rattle.row.specs.declared.form.Kind.TheVariants.{Literal, Name}
use Rattle.row.specs.Row.{Row}
use Rattle.row.specs.Rules.{is_kind}
use Rattle.row.specs.Numbers.{rows_of}
use Rattle.row.specs.Laid.{row_at}
use Rattle.row.proofs.Laid.{laid}
use Rattle.row.specs.Limits.{most_open}
use Rattle.chunk.specs.Chunk.{Chunk}
use Rattle.turn.specs.Content.{joins, join, flatten_from, flatten}
use Rattle.literal.specs.Literal.{Resolved, chunks, resolve_literal}
use Rattle.literal.specs.Literal as literal
use Rattle.literal.specs.Rows.{most_number, texts_of}
use Rattle.literal.proofs.Flattening.{flattening}
use Rattle.literal.proofs.WellFormed.{well-formed}
use Rattle.resolve.specs.Checks.{Lent}
use Rattle.resolve.specs.Runs.{Run, done, stop, of_literal}
use Rattle.values.specs.declared.elements.Element.TheVariants as element
use Rattle.values.specs.Field.{behind, onward, walk, elements, of_run, flattened, name, field_of}
use Rattle.values.specs.Field as field
use Rattle.values.specs.Uses.{first_element}
use Rattle.whole.specs.Bounds.{RunAtMost, NameAtMost, AtMost, ElementMost, UseAtMost, Under}

-- ---- chunks

few-from : (cs : List Chunk) (c : Chunk) → length (flatten_from c cs) ≤ suc (length cs)
unfolding flatten_from
few-from [] c = omega arith
few-from (d ∷ cs) c = by (joins c.kind d.kind) (few-from cs (join c d)) (few-from cs d)
  where
    by : (w : Bool) → length (flatten_from (join c d) cs) ≤ suc (length cs) → length (flatten_from d cs) ≤ suc (length cs)
        → length (cond w (flatten_from (join c d) cs) (c ∷ flatten_from d cs)) ≤ suc (suc (length cs))
    by true h k = omega arith
    by false h k = omega arith

few-flat : (cs : List Chunk) → length (flatten cs) ≤ length cs
few-flat [] = omega arith
few-flat (c ∷ cs) = few-from cs c

-- ---- runs

onward-within : (x : Run) (g : ℕ → Run) (n m p q : ℕ) → RunAtMost x n m → ((k : ℕ) → RunAtMost (g k) p q) → RunAtMost (onward x g) (n + p) (m + q)
onward-within (done cs k) g n m p q h f = by (g k) (f k)
  where
    by : (y : Run) → RunAtMost y p q → RunAtMost (behind cs y) (n + p) (m + q)
    by (done ds j) i = (
      omega (arith, h.0, i.0, length-append cs ds),
      omega (arith, h.1, i.1, ap length (flattening.texts-both cs ds), length-append (texts_of cs) (texts_of ds)),
    )
    by (stop f) i = tt
onward-within (stop f) g n m p q h i = tt

literal-within : (verb : Bool) (file : List ℕ) (a e k : ℕ)
    → RunAtMost (of_literal (resolve_literal verb (part file a e) a) k) (e - a + 1) (2 * (e - a))
literal-within verb file a e k =
    by (resolve_literal verb (part file a e) a) (well-formed.few verb (part file a e) a) (well-formed.twice verb (part file a e) a)
  where
    by : (x : Resolved) → ((cs : List Chunk) → x ≡ chunks cs → length cs ≤ length (part file a e) + 1)
        → ((cs : List Chunk) → x ≡ chunks cs → length (texts_of cs) ≤ 2 * length (part file a e))
        → RunAtMost (of_literal x k) (e - a + 1) (2 * (e - a))
    by (chunks cs) f t = (omega (arith, f cs refl, part-size file a e), omega (arith, t cs refl, part-size file a e))
    by (literal.refused g) f t = tt

pub flat-within : (x : Run) (n m : ℕ) → RunAtMost x n m → RunAtMost (flattened x) n m
flat-within (done cs k) n m h = (omega (arith, few-flat cs, h.0), omega (arith, ap length (flattening.texts-flat cs), h.1))
flat-within (stop f) n m h = tt

-- ---- the first of the rows

module _ (r : Row) (ss : List Row) where
  literal-row : (a e : ℕ) → first_element (r ∷ ss) ≡ Some (element.Literal a e) → (is_kind Literal r.kind ≡ true) × (r.start ≡ a) × (r.end ≡ e)
  literal-row a e = by (is_kind Literal r.kind) (is_kind Name r.kind)
    where
      by : (x y : Bool) → cond x (Some (element.Literal r.start r.end)) (cond y (Some (element.Name r.start r.end)) None) ≡ Some (element.Literal a e)
          → (x ≡ true) × (r.start ≡ a) × (r.end ≡ e)
      by true y h = (refl, cc, cc)
      by false true h = let z : ◌≡◌ {A = ℕ} 0 1 = cc in absurd (omega arith)
      by false false h = let z : ◌≡◌ {A = ℕ} 0 1 = cc in absurd (omega arith)

  name-row : (a e : ℕ) → first_element (r ∷ ss) ≡ Some (element.Name a e) → (is_kind Literal r.kind ≡ false) × (is_kind Name r.kind ≡ true)
  name-row a e = by (is_kind Literal r.kind) (is_kind Name r.kind)
    where
      by : (x y : Bool) → cond x (Some (element.Literal r.start r.end)) (cond y (Some (element.Name r.start r.end)) None) ≡ Some (element.Name a e)
          → (x ≡ false) × (y ≡ true)
      by true y h = let z : ◌≡◌ {A = ℕ} 0 1 = cc in absurd (omega arith)
      by false true h = (refl, refl)
      by false false h = let z : ◌≡◌ {A = ℕ} 0 1 = cc in absurd (omega arith)

  no_row : first_element (r ∷ ss) ≡ None → (is_kind Literal r.kind || is_kind Name r.kind) ≡ false
  no_row = by (is_kind Literal r.kind) (is_kind Name r.kind)
    where
      by : (x y : Bool) → cond x (Some (element.Literal r.start r.end)) (cond y (Some (element.Name r.start r.end)) None) ≡ None
          → (x || y) ≡ false
      by true y h = let z : ◌≡◌ {A = ℕ} 0 1 = cc in absurd (omega arith)
      by false true h = let z : ◌≡◌ {A = ℕ} 0 1 = cc in absurd (omega arith)
      by false false h = refl

pub none-most : (u : Option Most) (rs : List Row) → first_element rs ≡ None → AtMost u rs 0 0
unfolding walk elements texts_of
none-most u [] h l verb name b k = (omega arith, omega arith)
none-most u (r ∷ rs) h l verb name b k =
    subst (λ (b : Bool). RunAtMost (walk (field.element l verb name) (cond b (r ∷ elements rs) []) k) 0 0) (sym (no_row r rs h)) (omega arith, omega arith)

module _ (u : Option Most) (r : Row) (ss : List Row) (a e n m : ℕ) where
  pub literal-most : first_element (r ∷ ss) ≡ Some (element.Literal a e) → AtMost u ss n m → AtMost u (r ∷ ss) (e - a + 1 + n) (2 * (e - a) + m)
  unfolding walk elements
  literal-most h f l verb name b k =
      let t = literal-row r ss a e h in
      let one = field.element l verb name in
      let first = of_literal (resolve_literal verb (part l.file a e) a) k in
      let is : walk one (elements (r ∷ ss)) k ≡ onward first (walk one (elements ss)) = (rw (t.0, t.0, t.1, t.2)) in
      subst (λ (x : Run). RunAtMost x (e - a + 1 + n) (2 * (e - a) + m)) (sym is)
      (onward-within first (walk one (elements ss)) (e - a + 1) (2 * (e - a)) n m (literal-within verb l.file a e k) (f l verb name b))

  pub name-most : (x y : ℕ) → u ≡ Some (record { rows = x; bytes = y }) → first_element (r ∷ ss) ≡ Some (element.Name a e) → AtMost u ss n m → AtMost u (r ∷ ss) (x + n) (y + m)
  unfolding walk elements
  name-most x y w h f l verb name b k =
      let t = name-row r ss a e h in
      let one = field.element l verb name in
      let is : walk one (elements (r ∷ ss)) k ≡ onward (name r k) (walk one (elements ss)) = (rw (t.0, t.1, t.0)) in
      subst (λ (z : Run). RunAtMost z (x + n) (y + m)) (sym is)
      (onward-within (name r k) (walk one (elements ss)) x y n m (subst (λ (v : Option Most). NameAtMost v name) w b r k) (f l verb name b))

-- ---- the loop

there : (rows : List ℕ) (i : ℕ) → (first_element (rows_of (drop i rows)) ≡ None → ⊥) → i + 4 ≤ length rows
there rows i h = by (leb (i + 4) (length rows)) refl
  where
    by : (w : Bool) → leb (i + 4) (length rows) ≡ w → i + 4 ≤ length rows
    by true p = leb-true (i + 4) (length rows) p
    by false p = absurd (h (ap first_element (laid.rows_end rows i (leb-false (i + 4) (length rows) p))))

-- the tests of the code
pub spans : (a e : ℕ) → (ltb e a || ltb most_number e) ≡ false → (a ≤ e) × (e ≤ most_number)
spans a e h = let t = both_false (ltb e a) (ltb most_number e) h in (ltb-false e a t.0, ltb-false most_number e t.1)

pub sums : (n m : ℕ) → (ltb most_number n || ltb most_number m) ≡ false → (n ≤ most_number) × (m ≤ most_number)
sums n m h = let t = both_false (ltb most_number n) (ltb most_number m) h in (ltb-false most_number n t.0, ltb-false most_number m t.1)

-- the elements from number i to number j add at most n chunks and m bytes to what the elements from j on come to
abbrev pub Summed : Option Most → List ℕ → ℕ → ℕ → ℕ → ℕ → Type 0
Summed u rows i n m j = (p q : ℕ) → AtMost u (rows_of (drop j rows)) p q → AtMost u (rows_of (drop i rows)) (n + p) (m + q)

most-as : (u : Option Most) (rs : List Row) {n m p q : ℕ} → n ≡ p → m ≡ q → AtMost u rs n m → AtMost u rs p q
most-as u rs {n} {m} {p} {q} e f h = subst (λ (x : ℕ). AtMost u rs p x) f (subst (λ (x : ℕ). AtMost u rs x m) e h)

pub summed-none : (u : Option Most) (rows : List ℕ) (i : ℕ) → Summed u rows i 0 0 i
summed-none u rows i p q h = most-as u (rows_of (drop i rows)) (omega arith) (omega arith) h

module _ (u : Option Most) (rows : List ℕ) (i n m j : ℕ) where
  -- one element more, which comes to at most x chunks and y bytes
  summed-on : Summed u rows i n m j → j + 4 ≤ length rows → (x y n' m' : ℕ) → n' ≡ n + x → m' ≡ m + y
      → ((p q : ℕ) → AtMost u (rows_of (drop (j + 4) rows)) p q → AtMost u (row_at rows j ∷ rows_of (drop (j + 4) rows)) (x + p) (y + q))
      → Summed u rows i n' m' (j + 4)
  summed-on s t x y n' m' e f one p q h =
      most-as u (rows_of (drop i rows)) (omega arith) (omega arith)
      (s (x + p) (y + q) (subst (λ (rs : List Row). AtMost u rs (x + p) (y + q)) (sym (laid.rows_next rows j t)) (one p q h)))

  module _ (s : Summed u rows i n m j) (v : Option Element) (w : v ≡ first_element (rows_of (drop j rows))) (a e : ℕ) where
    first : j + 4 ≤ length rows → (d : Option Element) → v ≡ d → first_element (row_at rows j ∷ rows_of (drop (j + 4) rows)) ≡ d
    first t d h = sym (ap first_element (laid.rows_next rows j t)) ∙ sym w ∙ h

    module _ (n' m' : ℕ) where
      pub summed-literal : v ≡ Some (element.Literal a e) → n' ≡ n + (e - a + 1) → m' ≡ m + 2 * (e - a)
          → Summed u rows i n' m' (j + 4) × (j + 4 ≤ length rows)
      summed-literal h p q =
          let t = there rows j (λ n. let z : ◌≡◌ {A = ℕ} 0 1 = cc in omega arith) in (
            summed-on s t (e - a + 1) (2 * (e - a)) n' m' p q
                (λ p q. literal-most u (row_at rows j) (rows_of (drop (j + 4) rows)) a e p q (first t (Some (element.Literal a e)) h)),
            t,
          )

      pub summed-name : (x y : ℕ) → u ≡ Some (record { rows = x; bytes = y }) → v ≡ Some (element.Name a e) → n' ≡ n + x → m' ≡ m + y
          → Summed u rows i n' m' (j + 4) × (j + 4 ≤ length rows)
      summed-name x y k h p q =
          let t = there rows j (λ n. let z : ◌≡◌ {A = ℕ} 0 1 = cc in omega arith) in (
            summed-on s t x y n' m' p q
                (λ p q. name-most u (row_at rows j) (rows_of (drop (j + 4) rows)) a e p q x y k (first t (Some (element.Name a e)) h)),
            t,
          )

-- an option that has nothing
pub none-of : (v : Option Element) → ((e : Element) → v ≡ Some e → ⊥) → v ≡ None
none-of None h = refl
none-of (Some e) h = absurd (h e refl)

-- one element more
pub summed_one : (u : Option Most) (rows : List ℕ) (i n m j : ℕ) → Summed u rows i n m j → (v : Option Element) → v ≡ first_element (rows_of (drop j rows))
    → (d : Element) → v ≡ Some d → (one : Most) (r : Option Most) → r ≡ Some one → ElementMost d u r → Summed u rows i (n + one.rows) (m + one.bytes) (j + 4) ×
    (j + 4 ≤ length rows)
summed_one u rows i n m j s v w (element.Name a e) h one r k x =
    summed-name u rows i n m j s v w a e (n + one.rows) (m + one.bytes) one.rows one.bytes (sym x ∙ k) h refl refl
summed_one u rows i n m j s v w (element.Literal a e) h one r k x =
    let y = subst (ElementMost (element.Literal a e) u) k x in
    summed-literal u rows i n m j s v w a e (n + one.rows) (m + one.bytes) h (ap (λ (k : ℕ). n + k) y.0) (ap (λ (k : ℕ). m + k) y.1)

-- the elements of the value of row i stand behind its row
pub summed-end : (u : Option Most) (rows : List ℕ) (i n m j : ℕ) → Summed u rows (i * 4 + 4) n m j → (v : Option Element)
    → v ≡ first_element (rows_of (drop j rows)) → v ≡ None → AtMost u (drop (i + 1) (rows_of rows)) n m
summed-end u rows i n m j s v w x =
    let at : drop (i + 1) (rows_of rows) ≡ rows_of (drop (i * 4 + 4) rows) = laid.rows-by (i + 1) rows ∙ ap (λ (n : ℕ). rows_of (drop n rows)) (next i) in
    subst (λ (rs : List Row). AtMost u rs n m) (sym at)
    (most-as u (rows_of (drop (i * 4 + 4) rows)) (omega arith) (omega arith) (s 0 0 (none-most u (rows_of (drop j rows)) (sym w ∙ x))))
  where
    next : (i : ℕ) → (i + 1) * 4 ≡ i * 4 + 4
    next i = omega arith

-- ---- the value

run-under : (x : Run) (n m : ℕ) → RunAtMost x n m → Under (of_run x) n m
unfolding texts_of
run-under (done cs k) n m h = h
run-under (stop f) n m h = (omega arith, omega arith)

pub field-under : (u : Option Most) (l : Lent) → UseAtMost l u → (verb : Bool) (i n m : ℕ) → AtMost u (drop (i + 1) l.rows) n m
    → Under (field_of l verb i) n m
field-under u l b verb i n m h =
    let one = name l verb most_open [] in
    let k = subst (λ (j : ℕ). AtMost u (drop j l.rows) n m) (add-one i) h in
    let run = walk (field.element l verb one) (elements (drop (suc i) l.rows)) 0 in
    run-under (flattened run) n m (flat-within run n m (k l verb one (b.1 verb most_open []) 0))
