-- The ways through `name` of src/elements.rt.
--     name_by                            a name goes by whether its use is allowed
--     name-refused                       the use is not allowed
--     name-definition, name-month        the use is allowed, and the name has a definition, or is a month word
--     name-known                         a name whose use is allowed means something
--     some-limits, some_left             a name whose use is allowed is within both limits
--     path-more, ready-value-down        what `value` requires of `name`
-- Assumes nothing.
use Rattle.values.specs.declared.resolver.Resolver.{Resolver}
use Rattle.std.specs.Prelude.{Option, Some, None, Result, Ok, Err, ⊤}
use Rattle.row.specs.declared.fault.Fault.{Fault}
use Prim.Native.Nat.{ℕ, zero, suc, ◌+◌, ◌-◌, ◌*◌, ◌≤◌}
use native.Mathlib.Omega.{arith}
use native.Mathlib.Numerals.{sub-one, add-one}
use mathlib.Core.Path.{◌≡◌, refl, sym, ap, subst, ◌∙◌}
use mathlib.Core.Bool.{Bool, true, false, cond}
use mathlib.Core.List.{List, [], ◌∷◌, ◌++◌}
use lib.ListN.{length, take, drop, set}
use lib.Seq.{take-suc-set, take-take, take-set-le}
use lib.Dec.{ltb}
use borrow.Author.Tests.{ltb-true}
use Rattle.text.specs.Scan.{part}
use Rattle.row.specs.declared.fault.Reason.{Reason}
use Rattle.row.specs.declared.fault.Reason.TheVariants.{Cyclic, TooManyNames}
use Rattle.row.specs.Row.{Row}
use Rattle.row.specs.Numbers.{rows_of}
use Rattle.row.proofs.Laid.{laid}
use Rattle.row.specs.Limits.{most_open, most_names}
use Rattle.chunk.specs.declared.form.Kind.TheVariants.{Normal}
use Rattle.chunk.specs.Chunk.{Chunk, chunk}
use Rattle.resolve.specs.declared.progress.Progress.{Progress}
use Rattle.resolve.specs.Checks.{Lent}
use Rattle.resolve.specs.Runs.{Run, done}
use Rattle.resolve.specs.Progress.{Has, Adds, SaysRun}
use Rattle.values.specs.declared.elements.Meaning as code
use Rattle.values.specs.declared.elements.Meaning.TheVariants as meaning
use Rattle.values.specs.Field.{Meaning, definition, month, unknown, meaning_of, on_path}
use Rattle.values.specs.Field.{known, opened, at_use, element, elements, parse_field, flattened, name}
use Rattle.values.specs.Uses.{Means, limits, allowed_of, value_from, ReadyValue}
use Rattle.values.specs.NameUses.{or_refused}
use Rattle.values.proofs.ways.RunWays.{says-flat, says-from}
use Rattle.values.proofs.ways.ElementWays.{inside}

-- ---- what a name means, as the code has it

means-definition : (words : List ℕ) (m : Meaning) (i : ℕ) → Means words m (Some (meaning.Definition i)) → m ≡ definition i
means-definition words (definition j) i h = ap definition (sym h)
means-definition words (month t) i h = absurd h
means-definition words unknown i h = absurd h

means-month : (words : List ℕ) (m : Meaning) (a e : ℕ) → Means words m (Some (meaning.Month a e)) → (m ≡ month (part words a e)) × (a ≤ e) × (e ≤ length words)
means-month words (definition j) a e h = absurd h
means-month words (month t) a e h = (ap month h.0, h.1, h.2)
means-month words unknown a e h = absurd h

pub month-ends : (words : List ℕ) (m : Meaning) (x : Option code.Meaning) (a e : ℕ) → Means words m x → x ≡ Some (meaning.Month a e) → (a ≤ e) × (e ≤ length words)
month-ends words m x a e h q = let y = means-month words m a e (subst (Means words m) q h) in (y.1, y.2)

-- ---- whether it may be opened

-- what is not refused is allowed
pub allowed : (x : Result ⊤ Reason) → ((reason : Reason) → x ≡ Err reason → ⊥) → x ≡ Ok tt
allowed (Ok u) h = refl
allowed (Err reason) h = absurd (h reason refl)

module _ (l : Lent) (verb : Bool) (path : List ℕ) (r : Row) (n : ℕ) where
  -- what a name comes to that is neither unknown nor cyclic, with `left` names left to open
  abbrev limited : ℕ → Meaning → Run
  limited left m = or_refused (limits left n) r (opened r n m (inside l verb (left - 1) path n))

  limited-many : (m : Meaning) (go : Run) (x : Bool)
      → cond x go (at_use TooManyNames r) ≡ or_refused (cond x (Ok tt) (Err TooManyNames)) r go
  limited-many m go true = refl
  limited-many m go false = refl

  pub name_by : (left : ℕ) → name l verb left path r n ≡ known path r (meaning_of l r) (limited left (meaning_of l r))
  unfolding name
  name_by zero = refl
  name_by (suc left) =
      ap (λ (go : Run). known path r (meaning_of l r) go)
      (limited-many (meaning_of l r) (opened r n (meaning_of l r) (inside l verb left path n)) (ltb n most_names)
      ∙ ap (λ (k : ℕ). or_refused (limits (suc left) n) r (opened r n (meaning_of l r) (inside l verb k path n))) (sym (sub-one (suc left))))

  used : (words : List ℕ) (left : ℕ) (m : Meaning) (x : Option code.Meaning) → Means words m x
      → known path r m (limited left m) ≡ or_refused (allowed_of x path left n) r (opened r n m (inside l verb (left - 1) path n))
  used words left (definition i) (Some (meaning.Definition j)) h =
      by (on_path i path) ∙ ap (λ (k : ℕ). or_refused (cond (on_path k path) (Err Cyclic) (limits left n)) r (inside l verb (left - 1) path n i)) (sym h)
    where
      by : (x : Bool) → cond x (at_use Cyclic r) (or_refused (limits left n) r (inside l verb (left - 1) path n i))
          ≡ or_refused (cond x (Err Cyclic) (limits left n)) r (inside l verb (left - 1) path n i)
      by true = refl
      by false = refl
  used words left (definition i) (Some (meaning.Month a e)) h = absurd h
  used words left (definition i) None h = absurd h
  used words left (month t) (Some (meaning.Definition j)) h = absurd h
  used words left (month t) (Some (meaning.Month a e)) h = refl
  used words left (month t) None h = absurd h
  used words left unknown (Some (meaning.Definition j)) h = absurd h
  used words left unknown (Some (meaning.Month a e)) h = absurd h
  used words left unknown None h = refl

pub some-limits : (left n : ℕ) → limits left n ≡ Ok tt → (1 ≤ left) × (n + 1 ≤ most_names)
some-limits zero n h = let z : ◌≡◌ {A = ℕ} 0 1 = cc in absurd (omega arith)
some-limits (suc left) n h = by (ltb n most_names) refl h
  where
    by : (x : Bool) → ltb n most_names ≡ x → cond {A = Result ⊤ Reason} x (Ok tt) (Err TooManyNames) ≡ Ok tt → (1 ≤ suc left) × (n + 1 ≤ most_names)
    by true e k = let less = ltb-true n most_names e in (omega arith, omega arith)
    by false e k = let z : ◌≡◌ {A = ℕ} 0 1 = cc in absurd (omega arith)

pub some_left : (x : Option code.Meaning) (path : List ℕ) (left n : ℕ) → allowed_of x path left n ≡ Ok tt → (1 ≤ left) × (n + 1 ≤ most_names)
some_left (Some (meaning.Definition i)) path left n h = by (on_path i path) h
  where
    by : (y : Bool) → cond y (Err Cyclic) (limits left n) ≡ Ok tt → (1 ≤ left) × (n + 1 ≤ most_names)
    by true k = let z : ◌≡◌ {A = ℕ} 0 1 = cc in absurd (omega arith)
    by false k = some-limits left n k
some_left (Some (meaning.Month a e)) path left n h = some-limits left n h
some_left None path left n h = let z : ◌≡◌ {A = ℕ} 0 1 = cc in absurd (omega arith)

-- ---- the ways through it

module _ (l : Lent) (verb : Bool) (left : ℕ) (path : List ℕ) (r : Row) (st : Progress) (words : List ℕ) (m : Option code.Meaning)
    (h : Means words (meaning_of l r) m) (a : Result ⊤ Reason) (told : a ≡ allowed_of m path left st.names) (b t : List ℕ) where
  abbrev here : Run
  here = name l verb left path r st.names

  decided : (x : Result ⊤ Reason) → a ≡ x → here ≡ or_refused x r (opened r st.names (meaning_of l r) (inside l verb (left - 1) path st.names))
  decided x e =
      name_by l verb path r st.names left ∙ used l verb path r st.names words left (meaning_of l r) m h
      ∙ ap (λ (y : Result ⊤ Reason). or_refused y r (opened r st.names (meaning_of l r) (inside l verb (left - 1) path st.names))) (sym told ∙ e)

  pub name-refused : (reason : Reason) → a ≡ Err reason
      → SaysRun here st b t (Err (record { reason = reason; start = r.start; end = r.end })) b t
  name-refused reason e =
      subst (λ (run : Run). SaysRun run st b t (Err (record { reason = reason; start = r.start; end = r.end })) b t)
      (sym (decided (Err reason) e)) refl

  module _ (yes : a ≡ Ok tt) where
    pub name-left : (1 ≤ left) × (st.names + 1 ≤ most_names)
    name-left = some_left m path left st.names (sym told ∙ yes)

    pub name-known : m ≡ None → ⊥
    name-known e =
        let y : allowed_of None path left st.names ≡ Ok tt = ap (λ (x : Option code.Meaning). allowed_of x path left st.names) (sym e) ∙ sym told ∙ yes in
        let z : ◌≡◌ {A = ℕ} 0 1 = cc in
        absurd (omega arith)

    module _ (st₁ : Progress) (names : st₁.names ≡ st.names + 1) (same : (ps : List Chunk) (b₀ t₀ b t : List ℕ) → Has ps b₀ t₀ st b t → Has ps b₀ t₀ st₁ b t) where
      count : st₁.names ≡ suc st.names
      count = names ∙ add-one st.names

      -- the name has the definition in row i, and `value` answered
      pub name-definition : (i : ℕ) → m ≡ Some (meaning.Definition i) → (rows : List ℕ) → l.rows ≡ rows_of rows → (path₁ : List ℕ) → path₁ ≡ path ++ i ∷ []
          → (k : ℕ) → k ≡ left - 1 → (w : Result Progress Fault) (b₁ t₁ : List ℕ)
          → SaysRun (value_from l verb k path₁ (rows_of (drop (i * 4 + 8) rows)) st₁.names) st₁ b t w b₁ t₁
          → SaysRun here st b t w b₁ t₁
      name-definition i e rows p path₁ q k u w b₁ t₁ x =
          subst (λ (run : Run). SaysRun run st b t w b₁ t₁) (sym shape)
          (says-flat st b t b₁ t₁ (value_from l verb k path₁ (rows_of (drop (i * 4 + 8) rows)) st₁.names) w
          (says-from st b t b₁ t₁ st₁ (λ ps b₀ t₀. same ps b₀ t₀ b t) (value_from l verb k path₁ (rows_of (drop (i * 4 + 8) rows)) st₁.names) w x))
        where
          place : (i : ℕ) → (i + 2) * 4 ≡ i * 4 + 8
          place i = omega arith

          behind : drop (i + 2) l.rows ≡ rows_of (drop (i * 4 + 8) rows)
          behind = ap (drop (i + 2)) p ∙ laid.rows-by (i + 2) rows ∙ ap (λ (n : ℕ). rows_of (drop n rows)) (place i)

          shape : here ≡ flattened (value_from l verb k path₁ (rows_of (drop (i * 4 + 8) rows)) st₁.names)
          shape =
              decided (Ok tt) yes
              ∙ ap (λ (y : Meaning). opened r st.names y (inside l verb (left - 1) path st.names))
              (means-definition words (meaning_of l r) i (subst (λ (y : Option code.Meaning). Means words (meaning_of l r) y) e h))
              ∙ ap (λ (rs : List Row). parse_field (element l verb (name l verb (left - 1) (path ++ i ∷ []))) (elements rs) (suc st.names)) behind
              ∙ ap (λ (n : ℕ). flattened (value_from l verb (left - 1) (path ++ i ∷ []) (rows_of (drop (i * 4 + 8) rows)) n)) (sym count)
              ∙ ap (λ (ps : List ℕ). flattened (value_from l verb (left - 1) ps (rows_of (drop (i * 4 + 8) rows)) st₁.names)) (sym q)
              ∙ ap (λ (n : ℕ). flattened (value_from l verb n path₁ (rows_of (drop (i * 4 + 8) rows)) st₁.names)) (sym u)

      -- the name is a month word, and `month` answered
      pub name-month : (x y : ℕ) → m ≡ Some (meaning.Month x y) → (st₂ : Progress) (b₁ t₁ : List ℕ) → st₂.names ≡ st₁.names
          → Adds (chunk Normal (part words x y) r.start r.end ∷ []) st₁ b t st₂ b₁ t₁ → SaysRun here st b t (Ok st₂) b₁ t₁
      name-month x y e st₂ b₁ t₁ p k =
          subst (λ (run : Run). SaysRun run st b t (Ok st₂) b₁ t₁) (sym shape)
          (p ∙ count, λ ps b₀ t₀ has. k ps b₀ t₀ (same ps b₀ t₀ b t has))
        where
          shape : here ≡ done (chunk Normal (part words x y) r.start r.end ∷ []) (suc st.names)
          shape =
              decided (Ok tt) yes
              ∙ ap (λ (z : Meaning). opened r st.names z (inside l verb (left - 1) path st.names))
              (means-month words (meaning_of l r) x y (subst (λ (z : Option code.Meaning). Means words (meaning_of l r) z) e h)).0

-- ---- the definitions that are being resolved

-- one definition more
pub path-more : (held : List ℕ) (left i : ℕ) → length held ≡ most_open → 1 ≤ left → left ≤ most_open
    → take (most_open - (left - 1)) (set held (most_open - left) i) ≡ take (most_open - left) held ++ i ∷ []
path-more held left i e l m =
    ap (λ (n : ℕ). take n (set held (most_open - left) i)) (next left l m) ∙ take-suc-set held (most_open - left) i (omega arith)
  where
    next : (left : ℕ) → 1 ≤ left → left ≤ most_open → most_open - (left - 1) ≡ suc (most_open - left)
    next left l m = omega arith

-- the definitions before it are as they were
pub path-back : (held held' : List ℕ) (left i : ℕ) → 1 ≤ left → left ≤ most_open
    → take (most_open - (left - 1)) held' ≡ take (most_open - (left - 1)) (set held (most_open - left) i) → take (most_open - left) held' ≡ take (most_open - left) held
path-back held held' left i l m e =
    sym (take-take (most_open - left) (most_open - (left - 1)) held' (omega arith)) ∙ ap (take (most_open - left)) e
    ∙ take-take (most_open - left) (most_open - (left - 1)) (set held (most_open - left) i) (omega arith) ∙ take-set-le (most_open - left) held (most_open - left) i (omega arith)

pub ready-value-down : (r : Resolver) (w held : List ℕ) (left : ℕ) (held' : List ℕ)
    → ReadyValue r w held left → length held' ≡ length held
    → ReadyValue r w held' (left - 1)
ready-value-down r w held left held' h e = record {
  index = h.index;
  ready = h.ready;
  path = (e ∙ h.path.0, omega (arith, h.path.1));
}
