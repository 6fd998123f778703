-- The use of a name: `name-uses`.
--     named-of, of-named, unnamed       the definition that counts has the name, and none has it where none counts
--     word_of, unword                   the month word that is found has the name, and none has it where none is found
--     said, on-path                     what a name means, by the definitions and months with this name; its definition is on the path
--     limited, decided, exactly         with what a use is refused, by what its name means
--     goes, use-left, use-refused       what a name comes to, by what its use answers
--     counting                          every definition that is being resolved is the one that counts
--     walk-on, walk-stops, stops        elements one after the other: where one is refused, all are
--     name-small, most                  a value resolves at most 4,096 names
-- Assumes nothing.
use Rattle.std.specs.Prelude.{Option, Some, None, Result, Ok, Err, ⊤}
use Prim.Native.Nat.{ℕ, zero, suc, ◌-◌, ◌≤◌, ◌<◌}
use native.Mathlib.Omega.{arith}
use mathlib.Core.Path.{◌≡◌, refl, sym, ap, subst, ◌∙◌}
use mathlib.Core.Logic.{◌↔◌, ⊎_elim}
use mathlib.Core.Bool.{Bool, true, false, cond, ◌||◌}
use mathlib.Core.List.Memᴰ
use mathlib.Core.List.{List, [], ◌∷◌, ◌++◌, Memᴰ}
use mathlib.Core.List.{append_assoc}
use lib.ListN.{length, drop, length-append}
use lib.Dec.{eqb, ltb}
use borrow.Author.Tests.{eqb-true, eq-eqb, ltb-true, ltb-false, le-ltb}
use Rattle.std.proofs.Common.{Option, Some, None}
use Rattle.text.specs.SameBytes.{same_bytes}
use Rattle.text.proofs.general.Tests.{both_true, true-not-false}
use Rattle.text.proofs.general.SameBytes.{same_true, same_self}
use Rattle.row.specs.declared.form.Kind.TheVariants.{Literal, Name, DefinitionName}
use Rattle.row.specs.declared.fault.Fault.{Fault}
use Rattle.row.specs.declared.fault.Reason.{Reason}
use Rattle.row.specs.declared.fault.Reason.TheVariants.{UnknownAbbreviation, Cyclic, TooDeep, TooManyNames}
use Rattle.row.specs.Row.{Row}
use Rattle.row.specs.Rules.{is_kind}
use Rattle.row.specs.Limits.{most_open, most_names}
use Rattle.lookup.specs.Names.{is_named, last_named, row_no}
use Rattle.lookup.proofs.Lookup.{lookup}
use Rattle.chunk.specs.Chunk.{Chunk}
use Rattle.literal.specs.Literal.{Resolved, chunks, resolve_literal}
use Rattle.literal.specs.Literal as literal
use Rattle.resolve.specs.Resolves.{resolved, refused}
use Rattle.resolve.specs.Checks.{Month, Lent}
use Rattle.resolve.specs.Runs.{Run, done, stop, of_literal}
use Rattle.values.specs.Field.{elements, behind, onward, walk, flattened, parse_field, element, Meaning, definition, month, unknown, month_of}
use Rattle.values.specs.Field.{or_month, spelt, meaning_of, on_path, at_use, known, elements_of, opened, name, of_run, field_of}
use Rattle.values.specs.Uses.{limits}
use Rattle.values.specs.NameUses.{Defines, Known, defined, a-month, BeingResolved, UseFault, not_known, cyclic, too-deep, too_many, left, allowed_by}
use Rattle.values.specs.NameUses.{use_of, or_refused, each, Reached, Met, in-value, in-definition, Counts, Counting, NameUses}
use Rattle.values.proofs.ways.NameWays.{name_by, some-limits}

-- ---- the definitions and months with a name

module _ (l : Lent) (r : Row) where
  named-of : (j : ℕ) → last_named l.file (spelt l r) l.rows ≡ Some j → Defines l r j
  unfolding is_named
  named-of j e =
      let s = lookup.found-last l.file (spelt l r) l.rows j e in
      let q = row_no l.rows j in
      let b = both_true (is_kind DefinitionName q.kind) (same_bytes (spelt l q) (spelt l r)) s.named in
      record { there = s.below; kind = b.0; same = same_true (spelt l q) (spelt l r) b.1 }

  of-named : (i : ℕ) → Defines l r i → Counts l i → last_named l.file (spelt l r) l.rows ≡ Some i
  of-named i d e = ap (λ (w : List ℕ). last_named l.file w l.rows) (sym d.same) ∙ e

  unnamed : last_named l.file (spelt l r) l.rows ≡ None → (i : ℕ) → Defines l r i → ⊥
  unfolding is_named
  unnamed e i d =
      true-not-false (is_named l.file (spelt l r) (row_no l.rows i))
      (rw (d.kind, d.same) (same_self (spelt l r)))
      (lookup.none_named l.file (spelt l r) l.rows e i d.there)

word_of : (w : List ℕ) (ms : List Month) (t : List ℕ) → month_of w ms ≡ month t → (m : Month) × Memᴰ m ms × (m.word ≡ w)
unfolding month_of
word_of w [] t e = let z : ◌≡◌ {A = ℕ} 0 1 = cc in absurd (omega arith)
word_of w (m ∷ ms) t e = by (same_bytes m.word w) refl e (word_of w ms t)
  where
    by : (b : Bool) → same_bytes m.word w ≡ b → cond b (month m.text) (month_of w ms) ≡ month t
        → (month_of w ms ≡ month t → (k : Month) × Memᴰ k ms × (k.word ≡ w)) → (k : Month) × Memᴰ k (m ∷ ms) × (k.word ≡ w)
    by true p e on = (m, Memᴰ.head refl, same_true m.word w p)
    by false p e on = let x = on e in (x.0, Memᴰ.tail x.1, x.2)

unword : (w : List ℕ) (ms : List Month) → month_of w ms ≡ unknown → (m : Month) → Memᴰ m ms → m.word ≡ w → ⊥
unfolding month_of
unword w [] e k d p = Memᴰ.not-nil d
unword w (m ∷ ms) e k d p = by (same_bytes m.word w) refl e (unword w ms) d
  where
    by : (b : Bool) → same_bytes m.word w ≡ b → cond b (month m.text) (month_of w ms) ≡ unknown
        → (month_of w ms ≡ unknown → (k : Month) → Memᴰ k ms → k.word ≡ w → ⊥) → Memᴰ k (m ∷ ms) → ⊥
    by true q e on d = let z : ◌≡◌ {A = ℕ} 0 1 = cc in absurd (omega arith)
    by false q e on (Memᴰ.head x) =
        true-not-false (same_bytes m.word w) (ap (λ (v : List ℕ). same_bytes v w) (ap (λ (y : Month). y.word) (sym x) ∙ p) ∙ same_self w) q
    by false q e on (Memᴰ.tail d) = on e k d p

not-defined : (w : List ℕ) (ms : List Month) (j : ℕ) → month_of w ms ≡ definition j → ⊥
unfolding month_of
not-defined w [] j e = let z : ◌≡◌ {A = ℕ} 0 1 = cc in omega arith
not-defined w (m ∷ ms) j e = by (same_bytes m.word w) e (not-defined w ms j)
  where
    by : (b : Bool) → cond b (month m.text) (month_of w ms) ≡ definition j → (month_of w ms ≡ definition j → ⊥) → ⊥
    by true e on = let z : ◌≡◌ {A = ℕ} 0 1 = cc in omega arith
    by false e on = on e

-- ---- what a use is refused with

-- what is said of a name by what it means
data Said (l : Lent) (path : List ℕ) (r : Row) : Meaning → Type 0 where
  by-definition : (j : ℕ) → Defines l r j → ((i : ℕ) → Memᴰ i path → Defines l r i → i ≡ j) → Said l path r (definition j)
  by-month : (t : List ℕ) → Known l r → (BeingResolved l path r → ⊥) → Said l path r (month t)
  by-none : (Known l r → ⊥) → Said l path r unknown

module _ (l : Lent) (path : List ℕ) (r : Row) (h : Counting l path) where
  said : Said l path r (meaning_of l r)
  said = by (last_named l.file (spelt l r) l.rows) refl (month_of (spelt l r) l.months) refl
    where
      one : (j : ℕ) → last_named l.file (spelt l r) l.rows ≡ Some j → (i : ℕ) → Memᴰ i path → Defines l r i → i ≡ j
      one j e i d n = let x : Some i ≡ Some j = sym (of-named l r i n (h i d)) ∙ e in cc

      by : (f : Option ℕ) → last_named l.file (spelt l r) l.rows ≡ f → (m : Meaning) → month_of (spelt l r) l.months ≡ m
          → Said l path r (or_month f m)
      by (Some j) e m p = by-definition j (named-of l r j e) (one j e)
      by None e (definition j) p = absurd (not-defined (spelt l r) l.months j p)
      by None e (month t) p =
          let x = word_of (spelt l r) l.months t p in by-month t (a-month x.0 x.1 x.2) (λ b. unnamed l r e b.0 b.2)
      by None e unknown p = by-none none
        where
          none : Known l r → ⊥
          none (defined i d) = unnamed l r e i d
          none (a-month m d q) = unword (spelt l r) l.months p m d q

on-path : (j : ℕ) (path : List ℕ) → (on_path j path ≡ true) ↔ Memᴰ j path
unfolding on_path
on-path j [] = (λ e. (let z : ◌≡◌ {A = ℕ} 0 1 = cc in absurd (omega arith)), λ d. absurd (Memᴰ.not-nil d))
on-path j (i ∷ is) = let on = on-path j is in (there (eqb j i) refl on.0, here on.1)
  where
    there : (b : Bool) → eqb j i ≡ b → (on_path j is ≡ true → Memᴰ j is) → (b || on_path j is) ≡ true → Memᴰ j (i ∷ is)
    there true e on t = Memᴰ.head (eqb-true j i e)
    there false e on t = Memᴰ.tail (on t)

    or-true : (b : Bool) → (b || true) ≡ true
    or-true true = refl
    or-true false = refl

    here : (Memᴰ j is → on_path j is ≡ true) → Memᴰ j (i ∷ is) → (eqb j i || on_path j is) ≡ true
    here on (Memᴰ.head e) = rw (eq-eqb j i e) refl
    here on (Memᴰ.tail d) = rw (on d) (or-true (eqb j i))

module _ (l : Lent) (path : List ℕ) (r : Row) (n : ℕ) where
  -- a name that is neither unknown nor cyclic
  limited : Known l r → (BeingResolved l path r → ⊥) → (reason : Reason) → (limits (left path) n ≡ Err reason) ↔ UseFault l path r n reason
  limited k c reason = (there (left path) refl, λ u. back u)
    where
      many : (reason : Reason) → length path < most_open → (b : Bool) → ltb n most_names ≡ b
          → cond {A = Result ⊤ Reason} b (Ok tt) (Err TooManyNames) ≡ Err reason → UseFault l path r n reason
      many reason s true e p = let z : ◌≡◌ {A = ℕ} 0 1 = cc in absurd (omega arith)
      many reason s false e p =
          let q : TooManyNames ≡ reason = cc in subst (UseFault l path r n) q (too_many k c s (ltb-false n most_names e))

      there : (d : ℕ) → left path ≡ d → limits d n ≡ Err reason → UseFault l path r n reason
      there zero e p = let q : TooDeep ≡ reason = cc in subst (UseFault l path r n) q (too-deep k c (omega arith))
      there (suc d) e p = many reason (omega arith) (ltb n most_names) refl p

      less : (d : ℕ) → left path ≡ d → length path < most_open → most_names ≤ n → limits d n ≡ Err TooManyNames
      less zero e s m = absurd (omega arith)
      less (suc d) e s m = rw (le-ltb n most_names m) refl

      back : {reason : Reason} → UseFault l path r n reason → limits (left path) n ≡ Err reason
      back (not_known x) = absurd (x k)
      back (cyclic x b) = absurd (c b)
      back (too-deep x y d) = let z : left path ≡ 0 = omega arith in rw z refl
      back (too_many x y s m) = less (left path) refl s m

  decided : {m : Meaning} → Said l path r m → (reason : Reason) → (allowed_by m path n ≡ Err reason) ↔ UseFault l path r n reason
  decided (by-month t k c) reason = limited k c reason
  decided (by-none x) reason =
      (λ p. (let q : UnknownAbbreviation ≡ reason = cc in subst (UseFault l path r n) q (not_known x)), λ u. back u)
    where
      back : {reason : Reason} → UseFault l path r n reason → ◌≡◌ {A = Result ⊤ Reason} (Err UnknownAbbreviation) (Err reason)
      back (not_known y) = refl
      back (cyclic k b) = absurd (x k)
      back (too-deep k y d) = absurd (x k)
      back (too_many k y s m) = absurd (x k)
  decided (by-definition j d one) reason = by (on_path j path) refl
    where
      member : (b : BeingResolved l path r) → on_path j path ≡ true
      member b = (on-path j path).1 (subst (λ (i : ℕ). Memᴰ i path) (one b.0 b.1 b.2) b.1)

      back : BeingResolved l path r → {reason : Reason} → UseFault l path r n reason → ◌≡◌ {A = Result ⊤ Reason} (Err Cyclic) (Err reason)
      back b (not_known y) = absurd (y (defined j d))
      back b (cyclic k c) = refl
      back b (too-deep k y s) = absurd (y b)
      back b (too_many k y s m) = absurd (y b)

      by : (w : Bool) → on_path j path ≡ w
          → (cond w (Err Cyclic) (limits (left path) n) ≡ Err reason) ↔ UseFault l path r n reason
      by true e =
          let b : BeingResolved l path r = (j, (on-path j path).0 e, d) in
          (λ p. (let q : Cyclic ≡ reason = cc in subst (UseFault l path r n) q (cyclic (defined j d) b)), λ u. back b u)
      by false e = limited (defined j d) (λ b. true-not-false (on_path j path) (member b) e) reason

  exactly : (reason : Reason) → Counting l path → (use_of l path r n ≡ Err reason) ↔ UseFault l path r n reason
  exactly reason h = decided (said l path r h) reason

  cyclic-by-name : Counting l path → (use_of l path r n ≡ Err Cyclic) ↔ BeingResolved l path r
  cyclic-by-name h =
      (λ e. resolving ((exactly Cyclic h).0 e) refl, λ b. (exactly Cyclic h).1 (cyclic (defined b.0 b.2) b))
    where
      resolving : {reason : Reason} → UseFault l path r n reason → reason ≡ Cyclic → BeingResolved l path r
      resolving (not_known y) e = let z : ◌≡◌ {A = ℕ} 0 1 = cc in absurd (omega arith)
      resolving (cyclic k b) e = b
      resolving (too-deep k y s) e = let z : ◌≡◌ {A = ℕ} 0 1 = cc in absurd (omega arith)
      resolving (too_many k y s m) e = let z : ◌≡◌ {A = ℕ} 0 1 = cc in absurd (omega arith)

-- a use that is allowed has names left to open
pub use-left : (l : Lent) (path : List ℕ) (r : Row) (n : ℕ) → use_of l path r n ≡ Ok tt → 1 ≤ left path
use-left l path r n = by (meaning_of l r)
  where
    asked : (w : Bool) → cond w (Err Cyclic) (limits (left path) n) ≡ Ok tt → 1 ≤ left path
    asked true e = let z : ◌≡◌ {A = ℕ} 0 1 = cc in absurd (omega arith)
    asked false e = (some-limits (left path) n e).0

    by : (m : Meaning) → allowed_by m path n ≡ Ok tt → 1 ≤ left path
    by (definition j) e = asked (on_path j path) e
    by (month t) e = (some-limits (left path) n e).0
    by unknown e = let z : ◌≡◌ {A = ℕ} 0 1 = cc in absurd (omega arith)

-- ---- what a name comes to

pub left_down : (path : List ℕ) (j : ℕ) → left path - 1 ≡ left (path ++ j ∷ [])
left_down path j = omega (arith, length-append path (j ∷ []))

module _ (l : Lent) (verb : Bool) (path : List ℕ) (r : Row) (n : ℕ) where
  -- what the definition in row j comes to
  abbrev value : ℕ → Run
  value j = parse_field (each l verb (path ++ j ∷ [])) (elements_of l j) (suc n)

  goes : name l verb (left path) path r n ≡ or_refused (use_of l path r n) r (opened r n (meaning_of l r) value)
  goes = name_by l verb path r n (left path) ∙ by (meaning_of l r)
    where
      asked : (b : Bool) (x : Run)
          → cond b (at_use Cyclic r) (or_refused (limits (left path) n) r x) ≡ or_refused (cond b (Err Cyclic) (limits (left path) n)) r x
      asked true x = refl
      asked false x = refl

      deeper : (j : ℕ) → parse_field (element l verb (name l verb (left path - 1) (path ++ j ∷ []))) (elements_of l j) (suc n) ≡ value j
      deeper j = ap (λ (d : ℕ). parse_field (element l verb (name l verb d (path ++ j ∷ []))) (elements_of l j) (suc n)) (left_down path j)

      by : (m : Meaning)
          → known path r m (or_refused (limits (left path) n) r
          (opened r n m (λ j. parse_field (element l verb (name l verb (left path - 1) (path ++ j ∷ []))) (elements_of l j) (suc n))))
          ≡ or_refused (allowed_by m path n) r (opened r n m value)
      by (definition j) =
          asked (on_path j path) _ ∙ ap (λ (x : Run). or_refused (cond (on_path j path) (Err Cyclic) (limits (left path) n)) r x) (deeper j)
      by (month t) = refl
      by unknown = refl

  use-refused : (reason : Reason) → use_of l path r n ≡ Err reason
      → name l verb (left path) path r n ≡ stop (record { reason = reason; start = r.start; end = r.end })
  use-refused reason u = goes ∙ ap (λ (w : Result ⊤ Reason). or_refused w r (opened r n (meaning_of l r) value)) u

-- ---- the elements that are met

counting : (l : Lent) (verb : Bool) (i : ℕ) (path : List ℕ) (r : Row) (n : ℕ) → Met l verb i path r n → Counting l path
counting l verb i path r n (in-value x) k d = absurd (Memᴰ.not-nil d)
counting l verb i path r n (in-definition {path = p} {q = q} {m = m} t a y j e x) k d =
    ⊎_elim (λ (b : Memᴰ k p). counting l verb i p q m t k b)
    (λ (b : Memᴰ k (j ∷ [])). subst (Counts l) (sym (Memᴰ.eq_of_singleton b)) last) (Memᴰ.append_cases p d)
  where
    found-row : (f : Option ℕ) (m : Meaning) → ((g : ℕ) → m ≡ definition g → ⊥) → or_month f m ≡ definition j → f ≡ Some j
    found-row (Some g) m other e = let z : g ≡ j = cc in ap Some z
    found-row None m other e = absurd (other j e)

    at : last_named l.file (spelt l q) l.rows ≡ Some j
    at = found-row (last_named l.file (spelt l q) l.rows) (month_of (spelt l q) l.months) (not-defined (spelt l q) l.months) e

    last : Counts l j
    last = ap (λ (w : List ℕ). last_named l.file w l.rows) (named-of l q j at).same ∙ at

behind_more : (cs ds : List Chunk) (x : Run) → behind cs (behind ds x) ≡ behind (cs ++ ds) x
behind_more cs ds (done es n) = ap (λ (fs : List Chunk). done fs n) (sym (append_assoc cs ds es))
behind_more cs ds (stop f) = refl

onward-more : (x : Run) (g h : ℕ → Run) → onward (onward x g) h ≡ onward x (λ n. onward (g n) h)
onward-more (done cs n) g h = by (g n)
  where
    by : (y : Run) → onward (behind cs y) h ≡ behind cs (onward y h)
    by (done ds m) = sym (behind_more cs ds (h m))
    by (stop f) = refl
onward-more (stop f) g h = refl

module _ (one : Row → ℕ → Run) where
  walk-both : (xs ys : List Row) (k : ℕ) → walk one (xs ++ ys) k ≡ onward (walk one xs k) (walk one ys)
  unfolding walk
  walk-both [] ys k = nothing (walk one ys k)
    where
      nothing : (x : Run) → x ≡ behind [] x
      nothing (done cs n) = refl
      nothing (stop f) = refl
  walk-both (x ∷ xs) ys k = by (one x k) (walk-both xs ys)
    where
      by : (y : Run) → ((n : ℕ) → walk one (xs ++ ys) n ≡ onward (walk one xs n) (walk one ys))
          → onward y (walk one (xs ++ ys)) ≡ onward (onward y (walk one xs)) (walk one ys)
      by (done cs n) on = ap (λ (z : Run). behind cs z) (on n) ∙ sym (onward-more (done cs n) (walk one xs) (walk one ys))
      by (stop f) on = refl

  pub walk-on : (xs ys : List Row) (k n : ℕ) (cs : List Chunk) → walk one xs k ≡ done cs n → walk one (xs ++ ys) k ≡ behind cs (walk one ys n)
  walk-on xs ys k n cs e = walk-both xs ys k ∙ ap (λ (x : Run). onward x (walk one ys)) e

  walk-stops : (rs : List Row) (k : ℕ) (r : Row) (n : ℕ) (f : Fault) → Reached one rs k r n → one r n ≡ stop f → walk one rs k ≡ stop f
  unfolding walk
  walk-stops rs k r n f x e =
      ap (λ (xs : List Row). walk one xs k) x.row ∙ walk-on x.before (r ∷ x.after) k n x.chunks x.so_far
      ∙ ap (λ (y : Run). behind x.chunks (onward y (walk one x.after))) e

-- ---- a value is refused with what a use answers that is met

name-element : (l : Lent) (verb : Bool) (one : Row → ℕ → Run) (r : Row) (n : ℕ) → is_kind Name r.kind ≡ true → element l verb one r n ≡ one r n
name-element l verb one r n h =
    ap (λ (k : ℕ). cond (is_kind Literal k) (of_literal (resolve_literal verb (spelt l r) r.start) n) (one r n)) (eqb-true r.kind 7 h)

module _ (l : Lent) (verb : Bool) (i : ℕ) where
  stops : (path : List ℕ) (r : Row) (n : ℕ) → Met l verb i path r n → is_kind Name r.kind ≡ true → (f : Fault)
      → name l verb (left path) path r n ≡ stop f → field_of l verb i ≡ refused f
  stops path r n (in-value x) h f e =
      ap (λ (y : Run). of_run (flattened y))
      (walk-stops (each l verb []) (elements (drop (suc i) l.rows)) 0 r n f x (name-element l verb (name l verb most_open []) r n h ∙ e))
  stops path r n (in-definition {path = p} {q = q} {m = m} t a y j d x) h f e =
      stops p q m t a f
      (goes l verb p q m ∙ ap (λ (w : Result ⊤ Reason). or_refused w q (opened q m (meaning_of l q) (value l verb p q m))) y
      ∙ ap (λ (w : Meaning). opened q m w (value l verb p q m)) d
      ∙ ap flattened
      (walk-stops (each l verb (p ++ j ∷ [])) (elements_of l j) (suc m) r n f x
      (name-element l verb (name l verb (left (p ++ j ∷ [])) (p ++ j ∷ [])) r n h ∙ e)))

  refuses : (path : List ℕ) (r : Row) (n : ℕ) (reason : Reason) → Met l verb i path r n → is_kind Name r.kind ≡ true
      → use_of l path r n ≡ Err reason → field_of l verb i ≡ refused (record { reason = reason; start = r.start; end = r.end })
  refuses path r n reason t h u =
      stops path r n t h (record { reason = reason; start = r.start; end = r.end }) (use-refused l verb path r n reason u)

-- ---- how many names a value resolves

abbrev Small : Run → Type 0
Small (done cs n) = n ≤ most_names
Small (stop f) = Unit {0}

onward-small : (x : Run) (g : ℕ → Run) → Small x → ((n : ℕ) → n ≤ most_names → Small (g n)) → Small (onward x g)
onward-small (done cs n) g h k = by (g n) (k n h)
  where
    by : (y : Run) → Small y → Small (behind cs y)
    by (done ds m) z = z
    by (stop f) z = tt
onward-small (stop f) g h k = tt

flattened-small : (x : Run) → Small x → Small (flattened x)
flattened-small (done cs n) h = h
flattened-small (stop f) h = tt

abbrev Each : (Row → ℕ → Run) → Type 0
Each one = (r : Row) (n : ℕ) → n ≤ most_names → Small (one r n)

walk-small : (one : Row → ℕ → Run) → Each one → (rs : List Row) (n : ℕ) → n ≤ most_names → Small (walk one rs n)
unfolding walk
walk-small one h [] n s = s
walk-small one h (r ∷ rs) n s = onward-small (one r n) (walk one rs) (h r n s) (walk-small one h rs)

element-small : (l : Lent) (verb : Bool) (one : Row → ℕ → Run) → Each one → Each (element l verb one)
element-small l verb one h r n s = by (is_kind Literal r.kind) (resolve_literal verb (spelt l r) r.start)
  where
    by : (w : Bool) (x : Resolved) → Small (cond w (of_literal x n) (one r n))
    by true (chunks cs) = s
    by true (literal.refused f) = tt
    by false x = h r n s

parse-small : (l : Lent) (verb : Bool) (one : Row → ℕ → Run) → Each one → (rs : List Row) (n : ℕ) → n ≤ most_names
    → Small (parse_field (element l verb one) rs n)
parse-small l verb one h rs n s =
    flattened-small (walk (element l verb one) rs n) (walk-small (element l verb one) (element-small l verb one h) rs n s)

known_small : (path : List ℕ) (r : Row) (m : Meaning) (go : Run) → Small go → Small (known path r m go)
known_small path r (definition i) go h = by (on_path i path)
  where
    by : (w : Bool) → Small (cond w (at_use Cyclic r) go)
    by true = tt
    by false = h
known_small path r (month t) go h = h
known_small path r unknown go h = tt

name-small : (l : Lent) (verb : Bool) (d : ℕ) (path : List ℕ) → Each (name l verb d path)
unfolding name
name-small l verb zero path r n s = known_small path r (meaning_of l r) (at_use TooDeep r) tt
name-small l verb (suc d) path r n s =
    known_small path r (meaning_of l r) _
    (limited-small (ltb n most_names) refl (meaning_of l r) _
    (λ i k. parse-small l verb (name l verb d (path ++ i ∷ [])) (name-small l verb d (path ++ i ∷ [])) (elements_of l i) (suc n) k))
  where
    limited-small : (w : Bool) → ltb n most_names ≡ w → (m : Meaning) (v : ℕ → Run) → ((i : ℕ) → suc n ≤ most_names → Small (v i))
        → Small (cond w (opened r n m v) (at_use TooManyNames r))
    limited-small false e m v h = tt
    limited-small true e (definition i) v h = h i (ltb-true n most_names e)
    limited-small true e (month t) v h = ltb-true n most_names e
    limited-small true e unknown v h = tt

most : (l : Lent) (verb : Bool) (i n : ℕ) (cs : List Chunk) → field_of l verb i ≡ resolved cs n → n ≤ most_names
most l verb i n cs =
    by (parse_field _ _ 0) (parse-small l verb (name l verb most_open []) (name-small l verb most_open []) (elements (drop (suc i) l.rows)) 0 (omega arith))
  where
    by : (x : Run) → Small x → of_run x ≡ resolved cs n → n ≤ most_names
    by (done ds m) s e = let q : m ≡ n = cc in omega arith
    by (stop f) s e = let z : ◌≡◌ {A = ℕ} 0 1 = cc in absurd (omega arith)

-- ---- the statement

pub name-uses : NameUses
name-uses = record {
  counting = counting;
  exactly = exactly;
  cyclic = cyclic-by-name;
  goes = goes;
  refuses = refuses;
  most = most;
}
