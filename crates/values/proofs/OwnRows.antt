-- What a value resolves to depends on its own elements, the definitions and the month words alone: `own-rows`.
-- Assumes nothing.
use Rattle.std.specs.Prelude.{Option, Some, None}
use Prim.Native.Nat.{ℕ, zero, suc, ◌+◌}
use native.Mathlib.Omega.{arith}
use mathlib.Core.Path.{◌≡◌, refl, sym, ap, ap₂, subst, ◌∙◌}
use mathlib.Core.Bool.{Bool, true, false, cond, ◌&&◌, ◌||◌}
use mathlib.Core.List.{List, [], ◌∷◌, ◌++◌, map, map-append}
use lib.ListN.{length, drop}
use lib.Dec.{eqb, leb, ltb, eqb-zero-suc, eqb-suc-zero, eqb-suc-suc}
use Rattle.std.proofs.Common.{Option, Some, None}
use Rattle.row.specs.declared.form.Kind.TheVariants.{Literal, DefinitionName}
use Rattle.row.specs.declared.fault.Reason.{Reason}
use Rattle.row.specs.declared.fault.Reason.TheVariants.{UnknownAbbreviation, Cyclic, TooDeep, TooManyNames}
use Rattle.row.specs.Row.{Row}
use Rattle.row.specs.Rules.{is_kind}
use Rattle.text.specs.SameBytes.{same_bytes}
use Rattle.text.proofs.general.Tests.{true-not-false}
use Rattle.row.specs.Limits.{most_literal, most_arguments, most_open, most_names}
use Rattle.lookup.specs.Names.{is_named, later, last_named}
use Rattle.raw.specs.Reader.{OutOf, ok, again, bad}
use Rattle.chunk.specs.declared.form.Kind.TheVariants.{Normal}
use Rattle.chunk.specs.Chunk.{Chunk, chunk}
use Rattle.turn.specs.Content.{Part, content, chunks_of, joins, join, flatten_from}
use Rattle.literal.specs.Literal.{chunk_up, resolved_of, too_long, resolve_literal}
use Rattle.literal.specs.Literal as literal
use Rattle.resolve.specs.Resolves.{Value, resolved, refused}
use Rattle.resolve.specs.Checks.{Month, Lent}
use Rattle.resolve.specs.Runs.{Run, done, stop, of_literal}
use Rattle.values.specs.Field.{elements, behind, onward, walk, flattened, parse_field, element, Meaning}
use Rattle.values.specs.Field.{definition, month, unknown, month_of, or_month, spelt, meaning_of, on_path, at_use, known}
use Rattle.values.specs.Field.{opened, name, of_run, field_of}
use Rattle.values.specs.OwnRows.{as_they_are, left_out, SpeltElement, element_in, elements_in, value_in, Definition, definition_in, definitions_from}
use Rattle.values.specs.OwnRows.{definitions_of, chunk_with, fault_with, with_places, OwnRows}

-- ---- a definition's row, and which definition of the file it is

abbrev is_definition : Row → Bool
is_definition r = is_kind DefinitionName r.kind

-- row i is that of definition k
data At : List Row → ℕ → ℕ → Type 0 where
  here : {r : Row} {rs : List Row} → is_definition r ≡ true → At (r ∷ rs) 0 0
  next : {r : Row} {rs : List Row} {i k : ℕ} → is_definition r ≡ true → At rs i k → At (r ∷ rs) (suc i) (suc k)
  pass : {r : Row} {rs : List Row} {i k : ℕ} → is_definition r ≡ false → At rs i k → At (r ∷ rs) (suc i) k

-- two definition rows are the same exactly if the numbers of their definitions are
same_row : {rs : List Row} {i j k m : ℕ} → At rs i k → At rs j m → eqb i j ≡ eqb k m
same_row (here p) (here q) = refl
same_row (here p) (next {i = j} {k = m} q y) = eqb-zero-suc j ∙ sym (eqb-zero-suc m)
same_row (here p) (pass q y) = true-not-false _ p q
same_row (next {i = i} {k = k} p x) (here q) = eqb-suc-zero i ∙ sym (eqb-suc-zero k)
same_row (next {i = i} {k = k} p x) (next {i = j} {k = m} q y) = eqb-suc-suc i j ∙ same_row x y ∙ sym (eqb-suc-suc k m)
same_row (next p x) (pass q y) = true-not-false _ p q
same_row (pass p x) (here q) = true-not-false _ q p
same_row (pass p x) (next q y) = true-not-false _ q p
same_row (pass {i = i} p x) (pass {i = j} q y) = eqb-suc-suc i j ∙ same_row x y

-- ---- the search for a name, among rows and among definitions

unfoldable last_in : List ℕ → List Definition → Option ℕ
last_in w [] = None
last_in w (d ∷ ds) = later (last_in w ds) (same_bytes d.name w)

-- both find nothing, or the row and the number of one definition
data Met (rs : List Row) : Option ℕ → Option ℕ → Type 0 where
  none : Met rs None None
  some : {i k : ℕ} → At rs i k → Met rs (Some i) (Some k)

met_next : {r : Row} {rs : List Row} {f g : Option ℕ} → is_definition r ≡ true → Met rs f g → (x : Bool) → Met (r ∷ rs) (later f x) (later g x)
unfolding later
met_next e none true = some (here e)
met_next e none false = none
met_next e (some a) x = some (next e a)

met-pass : {r : Row} {rs : List Row} {f g : Option ℕ} → is_definition r ≡ false → Met rs f g → Met (r ∷ rs) (later f false) g
unfolding later
met-pass e none = none
met-pass e (some a) = some (pass e a)

finds : (tell : ℕ → ℕ) (l : Lent) (w : List ℕ) (rs : List Row) → Met rs (last_named l.file w rs) (last_in w (definitions_from tell l rs))
unfolding last_named is_named definitions_from last_in
finds tell l w [] = none
finds tell l w (r ∷ rs) = by (is_definition r) refl (finds tell l w rs)
  where
    by : (b : Bool) → is_definition r ≡ b → Met rs (last_named l.file w rs) (last_in w (definitions_from tell l rs))
        → Met (r ∷ rs) (later (last_named l.file w rs) (b && same_bytes (spelt l r) w))
        (last_in w (cond b (definition_in tell l r rs ∷ definitions_from tell l rs) (definitions_from tell l rs)))
    by true e m = met_next e m (same_bytes (spelt l r) w)
    by false e m = met-pass e m

-- ---- the elements of a definition

unfoldable value_no : List Definition → ℕ → List SpeltElement
value_no [] k = []
value_no (d ∷ ds) zero = d.value
value_no (d ∷ ds) (suc k) = value_no ds k

behind-one : (i : ℕ) → suc i + 2 ≡ suc (i + 2)
behind-one i = omega arith

value-at : (tell : ℕ → ℕ) (l : Lent) {rs : List Row} {i k : ℕ} → At rs i k → elements_in tell l (drop (i + 2) rs) ≡ value_no (definitions_from tell l rs) k
unfolding definitions_from value_no
value-at tell l (here p) = rw p refl
value-at tell l (next {r} {rs} {i} p x) = rw p (ap (λ (n : ℕ). elements_in tell l (drop n (r ∷ rs))) (behind-one i) ∙ value-at tell l x)
value-at tell l (pass {r} {rs} {i} p x) = rw p (ap (λ (n : ℕ). elements_in tell l (drop n (r ∷ rs))) (behind-one i) ∙ value-at tell l x)

-- ---- runs, with their places as `tell` gives them

abbrev run_with : (ℕ → ℕ) → Run → Run
run_with tell (done cs n) = done (map (chunk_with tell) cs) n
run_with tell (stop f) = stop (fault_with tell f)

abbrev first_or : SpeltElement → List SpeltElement → SpeltElement
first_or d [] = d
first_or d (x ∷ xs) = x

-- two places that `tell` does not tell apart are not told apart either when both are moved by k
abbrev Steady : (ℕ → ℕ) → Type 0
Steady tell = (a b k : ℕ) → tell a ≡ tell b → (tell (k + a) ≡ tell (k + b)) × (tell (a + k) ≡ tell (b + k))

module _ (tell : ℕ → ℕ) where
  onward-with : (x : Run) (g : ℕ → Run) → run_with tell (onward x g) ≡ onward (run_with tell x) (λ n. run_with tell (g n))
  onward-with (done cs n) g = by (g n)
    where
      by : (y : Run) → run_with tell (behind cs y) ≡ behind (map (chunk_with tell) cs) (run_with tell y)
      by (done ds m) = ap (λ (es : List Chunk). done es m) (map-append (chunk_with tell) cs ds)
      by (stop f) = refl
  onward-with (stop f) g = refl

  onward-same : (x y : Run) (g h : ℕ → Run) → run_with tell x ≡ run_with tell y → ((n : ℕ) → run_with tell (g n) ≡ run_with tell (h n))
      → run_with tell (onward x g) ≡ run_with tell (onward y h)
  onward-same x y g h e k =
      onward-with x g ∙ by (run_with tell x) ∙ ap (λ (z : Run). onward z (λ n. run_with tell (h n))) e ∙ sym (onward-with y h)
    where
      by : (z : Run) → onward z (λ n. run_with tell (g n)) ≡ onward z (λ n. run_with tell (h n))
      by (done cs n) = ap (behind cs) (k n)
      by (stop f) = refl

  joined-with : (cs : List Chunk) (c : Chunk) → map (chunk_with tell) (flatten_from c cs) ≡ flatten_from (chunk_with tell c) (map (chunk_with tell) cs)
  unfolding flatten_from
  joined-with [] c = refl
  joined-with (d ∷ cs) c = by (joins c.kind d.kind) (joined-with cs (join c d)) (joined-with cs d)
    where
      by : (w : Bool) → map (chunk_with tell) (flatten_from (join c d) cs) ≡ flatten_from (chunk_with tell (join c d)) (map (chunk_with tell) cs)
          → map (chunk_with tell) (flatten_from d cs) ≡ flatten_from (chunk_with tell d) (map (chunk_with tell) cs)
          → map (chunk_with tell) (cond w (flatten_from (join c d) cs) (c ∷ flatten_from d cs))
          ≡ cond w (flatten_from (join (chunk_with tell c) (chunk_with tell d)) (map (chunk_with tell) cs))
          (chunk_with tell c ∷ flatten_from (chunk_with tell d) (map (chunk_with tell) cs))
      by true x y = x
      by false x y = ap (λ (es : List Chunk). chunk_with tell c ∷ es) y

  flattened-with : (x : Run) → run_with tell (flattened x) ≡ flattened (run_with tell x)
  flattened-with (done [] n) = refl
  flattened-with (done (c ∷ cs) n) = ap (λ (es : List Chunk). done es n) (joined-with cs c)
  flattened-with (stop f) = refl

  cond_same : (w v : Bool) (x y z u : Run) → w ≡ v → run_with tell x ≡ run_with tell z → run_with tell y ≡ run_with tell u
      → run_with tell (cond w x y) ≡ run_with tell (cond v z u)
  cond_same true true x y z u e p q = p
  cond_same true false x y z u e p q = true-not-false true refl e
  cond_same false true x y z u e p q = true-not-false true refl (sym e)
  cond_same false false x y z u e p q = q

  -- a literal with the same bytes resolves alike at two places that `tell` does not tell apart
  literal-same : Steady tell → (verb : Bool) (s : List ℕ) (a b n : ℕ) → tell a ≡ tell b
      → run_with tell (of_literal (resolve_literal verb s a) n) ≡ run_with tell (of_literal (resolve_literal verb s b) n)
  unfolding resolve_literal
  literal-same steady verb s a b n e = by (leb (length s) most_literal) (content most_arguments verb s 0)
    where
      up : (cs : List Chunk) → map (chunk_with tell) (map (chunk_up a) cs) ≡ map (chunk_with tell) (map (chunk_up b) cs)
      up [] = refl
      up (c ∷ cs) =
          ap₂ (λ (d : Chunk) (ds : List Chunk). d ∷ ds)
          (ap₂ (λ (x y : ℕ). chunk c.kind c.text x y) (steady a b c.start e).0 (steady a b c.end e).0) (up cs)

      by : (w : Bool) (o : OutOf Part) → run_with tell (of_literal (cond w (resolved_of a o) (literal.refused (too_long a (a + length s)))) n)
          ≡ run_with tell (of_literal (cond w (resolved_of b o) (literal.refused (too_long b (b + length s)))) n)
      by true (ok q xs) = ap (λ (cs : List Chunk). done cs n) (up (chunks_of 0 q xs))
      by true (again q xs m) = ap (λ (cs : List Chunk). done cs n) (up (chunks_of 0 q xs))
      by true (bad f) =
          ap₂ (λ (x y : ℕ). stop (record { reason = f.reason; start = x; end = y })) (steady a b f.start e).0 (steady a b f.end e).0
      by false o = ap₂ (λ (x y : ℕ). stop (too_long x y)) e (steady a b (length s) e).1

-- ---- two files with the same definitions and months

module _ (tell : ℕ → ℕ) (steady : Steady tell) (verb : Bool) (l l' : Lent) (ms : l.months ≡ l'.months)
    (ds : definitions_of tell l ≡ definitions_of tell l') where
  -- elements of the two files that are alike, as `tell` gives their places, come to runs that are alike
  abbrev Each : (Row → ℕ → Run) → (Row → ℕ → Run) → Type 0
  Each one two = (r r' : Row) (n : ℕ) → element_in tell l r ≡ element_in tell l' r' → run_with tell (one r n) ≡ run_with tell (two r' n)

  walk_same : (one two : Row → ℕ → Run) → Each one two → (rs rs' : List Row) (n : ℕ) → map (element_in tell l) rs ≡ map (element_in tell l') rs'
      → run_with tell (walk one rs n) ≡ run_with tell (walk two rs' n)
  unfolding walk
  walk_same one two h [] [] n e = refl
  walk_same one two h [] (r' ∷ rs') n e = absurd (omega (arith, ap length e))
  walk_same one two h (r ∷ rs) [] n e = absurd (omega (arith, ap length e))
  walk_same one two h (r ∷ rs) (r' ∷ rs') n e =
      onward-same tell (one r n) (two r' n) (walk one rs) (walk two rs') (h r r' n (ap (first_or (element_in tell l r)) e))
      (λ m. walk_same one two h rs rs' m (ap (drop 1) e))

  element-same : (one two : Row → ℕ → Run) → Each one two → Each (element l verb one) (element l' verb two)
  element-same one two h r r' n e =
      cond_same tell (is_kind Literal r.kind) (is_kind Literal r'.kind) _ (one r n) _ (two r' n) (ap (λ (x : SpeltElement). is_kind Literal x.kind) e)
      (ap (λ (x : SpeltElement). run_with tell (of_literal (resolve_literal verb x.bytes r.start) n)) e
      ∙ literal-same tell steady verb (spelt l' r') r.start r'.start n (ap (λ (x : SpeltElement). x.start) e))
      (h r r' n e)

  parse-same : (one two : Row → ℕ → Run) → Each one two → (rs rs' : List Row) (n : ℕ) → elements_in tell l rs ≡ elements_in tell l' rs'
      → run_with tell (parse_field (element l verb one) (elements rs) n) ≡ run_with tell (parse_field (element l' verb two) (elements rs') n)
  parse-same one two h rs rs' n e =
      flattened-with tell (walk (element l verb one) (elements rs) n)
      ∙ ap flattened (walk_same (element l verb one) (element l' verb two) (element-same one two h) (elements rs) (elements rs') n e)
      ∙ sym (flattened-with tell (walk (element l' verb two) (elements rs') n))

  -- ---- what a name means in both

  data MeansSame : Meaning → Meaning → Type 0 where
    one : {i j k : ℕ} → At l.rows i k → At l'.rows j k → MeansSame (definition i) (definition j)
    text : {t : List ℕ} → MeansSame (month t) (month t)
    unheard : MeansSame unknown unknown

  month-same : (w : List ℕ) (xs : List Month) → MeansSame (month_of w xs) (month_of w xs)
  unfolding month_of
  month-same w [] = unheard
  month-same w (m ∷ xs) = by (same_bytes m.word w) (month-same w xs)
    where
      by : (b : Bool) → MeansSame (month_of w xs) (month_of w xs) → MeansSame (cond b (month m.text) (month_of w xs)) (cond b (month m.text) (month_of w xs))
      by true h = text
      by false h = h

  abbrev word_in : Lent → List ℕ → Meaning
  word_in k w = or_month (last_named k.file w k.rows) (month_of w k.months)

  word_same : (w : List ℕ) → MeansSame (word_in l w) (word_in l' w)
  word_same w =
      by (finds tell l w l.rows)
      (subst (λ (xs : List Definition). Met l'.rows (last_named l'.file w l'.rows) (last_in w xs)) (sym ds) (finds tell l' w l'.rows))
    where
      by : {f g o : Option ℕ} → Met l.rows f o → Met l'.rows g o → MeansSame (or_month f (month_of w l.months)) (or_month g (month_of w l'.months))
      by none none = subst (λ (xs : List Month). MeansSame (month_of w l.months) (month_of w xs)) ms (month-same w l.months)
      by (some x) (some y) = one x y

  meaning-same : (r r' : Row) → element_in tell l r ≡ element_in tell l' r' → MeansSame (meaning_of l r) (meaning_of l' r')
  meaning-same r r' e = subst (λ (x : SpeltElement). MeansSame (meaning_of l r) (word_in l' x.bytes)) e (word_same (spelt l r))

  -- ---- the definitions that are being resolved in both

  data Paths : List ℕ → List ℕ → Type 0 where
    nil : Paths [] []
    cons : {i j k : ℕ} {p q : List ℕ} → At l.rows i k → At l'.rows j k → Paths p q → Paths (i ∷ p) (j ∷ q)

  paths-more : {i j k : ℕ} {p q : List ℕ} → Paths p q → At l.rows i k → At l'.rows j k → Paths (p ++ i ∷ []) (q ++ j ∷ [])
  paths-more nil x y = cons x y nil
  paths-more (cons a b ps) x y = cons a b (paths-more ps x y)

  on-path-same : {i j k : ℕ} {p q : List ℕ} → At l.rows i k → At l'.rows j k → Paths p q → on_path i p ≡ on_path j q
  unfolding on_path
  on-path-same x y nil = refl
  on-path-same x y (cons a b ps) = ap₂ ◌||◌ (same_row x a ∙ sym (same_row y b)) (on-path-same x y ps)

  -- ---- uses of names

  use-same : (reason : Reason) (r r' : Row) → element_in tell l r ≡ element_in tell l' r' → run_with tell (at_use reason r) ≡ run_with tell (at_use reason r')
  use-same reason r r' e = ap (λ (x : SpeltElement). stop (record { reason = reason; start = x.start; end = x.end })) e

  known_same : {p q : List ℕ} {m m' : Meaning} → Paths p q → MeansSame m m' → (r r' : Row) (go go' : Run) → element_in tell l r ≡ element_in tell l' r'
      → run_with tell go ≡ run_with tell go' → run_with tell (known p r m go) ≡ run_with tell (known q r' m' go')
  known_same ps (one x y) r r' go go' e h = cond_same tell _ _ (at_use Cyclic r) go (at_use Cyclic r') go' (on-path-same x y ps) (use-same Cyclic r r' e) h
  known_same ps text r r' go go' e h = h
  known_same ps unheard r r' go go' e h = use-same UnknownAbbreviation r r' e

  opened-same : {m m' : Meaning} → MeansSame m m' → (r r' : Row) (n : ℕ) (f g : ℕ → Run) → element_in tell l r ≡ element_in tell l' r'
      → ((i j k : ℕ) → At l.rows i k → At l'.rows j k → run_with tell (f i) ≡ run_with tell (g j))
      → run_with tell (opened r n m f) ≡ run_with tell (opened r' n m' g)
  opened-same (one {i} {j} {k} x y) r r' n f g e h = h i j k x y
  opened-same (text {t}) r r' n f g e h = ap (λ (x : SpeltElement). done (chunk Normal t x.start x.end ∷ []) (suc n)) e
  opened-same unheard r r' n f g e h = use-same UnknownAbbreviation r r' e

  name-same : (left : ℕ) {p q : List ℕ} → Paths p q → Each (name l verb left p) (name l' verb left q)
  unfolding name
  name-same zero ps r r' n e = known_same ps (meaning-same r r' e) r r' _ _ e (use-same TooDeep r r' e)
  name-same (suc left) {p} {q} ps r r' n e =
      known_same ps (meaning-same r r' e) r r' _ _ e
      (cond_same tell (ltb n most_names) (ltb n most_names) _ (at_use TooManyNames r) _ (at_use TooManyNames r') refl
      (opened-same (meaning-same r r' e) r r' n _ _ e
      (λ i j k x y.
      parse-same (name l verb left (p ++ i ∷ [])) (name l' verb left (q ++ j ∷ [])) (name-same left (paths-more ps x y))
      (drop (i + 2) l.rows) (drop (j + 2) l'.rows) (suc n)
      (value-at tell l x ∙ ap (λ (xs : List Definition). value_no xs k) ds ∙ sym (value-at tell l' y))))
      (use-same TooManyNames r r' e))

  field-same : (i j : ℕ) → value_in tell l i ≡ value_in tell l' j → with_places tell (field_of l verb i) ≡ with_places tell (field_of l' verb j)
  field-same i j e =
      of-run (parse_field (element l verb (name l verb most_open [])) (elements (drop (suc i) l.rows)) 0)
      ∙ ap of_run (parse-same (name l verb most_open []) (name l' verb most_open []) (name-same most_open nil) (drop (suc i) l.rows) (drop (suc j) l'.rows) 0 e)
      ∙ sym (of-run (parse_field (element l' verb (name l' verb most_open [])) (elements (drop (suc j) l'.rows)) 0))
    where
      of-run : (x : Run) → with_places tell (of_run x) ≡ of_run (run_with tell x)
      of-run (done cs n) = refl
      of-run (stop f) = refl

-- ---- the statement

told-whole : (v : Value) → with_places as_they_are v ≡ v
told-whole (resolved cs n) = ap (λ (es : List Chunk). resolved es n) (all cs)
  where
    all : (cs : List Chunk) → map (chunk_with as_they_are) cs ≡ cs
    all [] = refl
    all (c ∷ cs) = ap (λ (es : List Chunk). c ∷ es) (all cs)
told-whole (refused f) = refl

as-they-are-steady : Steady as_they_are
as-they-are-steady a b k e = (ap (λ (x : ℕ). k + x) e, ap (λ (x : ℕ). x + k) e)

left-out-steady : Steady left_out
left-out-steady a b k e = (refl, refl)

pub own-rows : OwnRows
own-rows = record {
  same = λ l l' verb i j h.
      sym (told-whole (field_of l verb i))
      ∙ field-same as_they_are as-they-are-steady verb l l' h.months h.definitions i j h.value
      ∙ told-whole (field_of l' verb j);
  elsewhere = λ l l' verb i j h. field-same left_out left-out-steady verb l l' h.months h.definitions i j h.value;
}
