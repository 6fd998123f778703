-- Which refusals a value can come to, and their places: `refusals`.
-- Assumes nothing.
use Rattle.std.specs.Prelude.{Result, Ok, Err, ⊤}
use Prim.Native.Nat.{ℕ, zero, suc, ◌+◌, ◌≤◌}
use native.Mathlib.Omega.{arith}
use mathlib.Core.Path.{◌≡◌, refl, sym, ap, subst, ◌∙◌}
use mathlib.Core.Bool.{Bool, true, false, cond, ◌||◌}
use mathlib.Core.List.{List, [], ◌∷◌, ◌++◌, append_assoc}
use lib.ListN.{drop}
use Rattle.row.specs.declared.form.Kind.TheVariants.{Literal, Name}
use Rattle.row.specs.declared.fault.Fault.{Fault}
use Rattle.row.specs.declared.fault.Reason.{Reason}
use Rattle.row.specs.Fault.{number_of}
use Rattle.row.specs.Row.{Row}
use Rattle.row.specs.Rules.{is_kind}
use Rattle.row.specs.Limits.{most_open}
use Rattle.chunk.specs.Chunk.{Chunk}
use Rattle.literal.specs.Literal.{Resolved, chunks, resolve_literal}
use Rattle.literal.specs.Literal as literal
use Rattle.literal.specs.Refusals.{LiteralFault}
use Rattle.literal.proofs.Refusals.{refusals as literal-refusals}
use Rattle.resolve.specs.Resolves.{refused}
use Rattle.resolve.specs.Checks.{Lent}
use Rattle.resolve.specs.Runs.{Run, done, stop, of_literal}
use Rattle.values.specs.Field.{is_element, elements, behind, onward, walk, flattened, parse_field, Meaning, definition, month, unknown}
use Rattle.values.specs.Field.{spelt, meaning_of, elements_of, opened, name, of_run, field_of}
use Rattle.values.specs.NameUses.{UseFault, not_known, cyclic, too-deep, too_many, left, allowed_by, use_of, or_refused, each, Reached, Met, in-value}
use Rattle.values.specs.NameUses.{in-definition}
use Rattle.values.specs.Refusals.{FieldFault, used, met, Refusals}
use Rattle.values.proofs.NameUses.{left_down, use-left, walk-on, name-uses}

-- ---- an element of a value is a literal or a name

is-element : (rs before after : List Row) (r : Row) → elements rs ≡ before ++ r ∷ after → is_element r ≡ true
unfolding elements
is-element [] [] after r e = let z : ◌≡◌ {A = ℕ} 0 1 = cc in absurd (omega arith)
is-element [] (b ∷ before) after r e = let z : ◌≡◌ {A = ℕ} 0 1 = cc in absurd (omega arith)
is-element (q ∷ rs) before after r e = by (is_element q) refl before e (λ more. is-element rs more after r)
  where
    by : (w : Bool) → is_element q ≡ w → (before : List Row) → cond w (q ∷ elements rs) [] ≡ before ++ r ∷ after
        → ((more : List Row) → elements rs ≡ more ++ r ∷ after → is_element r ≡ true) → is_element r ≡ true
    by true p [] e on = let z : q ≡ r = cc in ap (λ (x : Row). is_element x) (sym z) ∙ p
    by true p (b ∷ before) e on = on before (cc)
    by false p [] e on = let z : ◌≡◌ {A = ℕ} 0 1 = cc in absurd (omega arith)
    by false p (b ∷ before) e on = let z : ◌≡◌ {A = ℕ} 0 1 = cc in absurd (omega arith)

-- ---- elements one after the other

module _ (l : Lent) (verb : Bool) (i : ℕ) where
  abbrev Fair : Run → Type 0
  Fair (done cs n) = Unit {0}
  Fair (stop f) = FieldFault l verb i f

  flattened-fair : (x : Run) → Fair x → Fair (flattened x)
  flattened-fair (done cs n) h = tt
  flattened-fair (stop f) h = h

  behind-fair : (cs : List Chunk) (x : Run) → Fair x → Fair (behind cs x)
  behind-fair cs (done ds n) h = tt
  behind-fair cs (stop f) h = h

  module _ (one : Row → ℕ → Run) (rs : List Row) (k : ℕ) (h : (r : Row) (n : ℕ) → Reached one rs k r n → Fair (one r n)) where
    -- the elements behind those that come to n names
    walk-fair : (after before : List Row) (cs : List Chunk) (n : ℕ) → rs ≡ before ++ after → walk one before k ≡ done cs n → Fair (walk one after n)
    unfolding walk
    walk-fair [] before cs n e w = tt
    walk-fair (r ∷ after) before cs n e w =
        by (one r n) refl (h r n (record { before = before; after = after; chunks = cs; row = e; so_far = w })) (walk-fair after (before ++ r ∷ []))
      where
        next : (ds : List Chunk) (m : ℕ) → one r n ≡ done ds m → walk one (before ++ r ∷ []) k ≡ done (cs ++ (ds ++ [])) m
        next ds m x = walk-on one before (r ∷ []) k n cs w ∙ ap (λ (y : Run). behind cs (onward y (walk one []))) x

        by : (x : Run) → one r n ≡ x → Fair x
            → ((ds : List Chunk) (m : ℕ) → rs ≡ (before ++ r ∷ []) ++ after → walk one (before ++ r ∷ []) k ≡ done ds m → Fair (walk one after m))
            → Fair (onward x (walk one after))
        by (done ds m) x g on =
            behind-fair ds (walk one after m) (on (cs ++ (ds ++ [])) m (e ∙ sym (append_assoc before (r ∷ []) after)) (next ds m x))
        by (stop f) x g on = g

  -- what a name comes to that is met
  abbrev Each : List ℕ → Type 0
  Each path = (r : Row) (n : ℕ) → Met l verb i path r n → is_kind Name r.kind ≡ true → Fair (name l verb (left path) path r n)

  module _ (path : List ℕ) (h : Each path) where
    element-fair : (r : Row) (n : ℕ) → Met l verb i path r n → is_element r ≡ true → Fair (each l verb path r n)
    element-fair r n t p =
        by (is_kind Literal r.kind) refl (resolve_literal verb (spelt l r) r.start) (literal-refusals.literal verb (spelt l r) r.start)
      where
        other : (a b : Bool) → a ≡ false → (a || b) ≡ true → b ≡ true
        other false b q t = t
        other true b q t = let z : ◌≡◌ {A = ℕ} 0 1 = cc in absurd (omega arith)

        by : (w : Bool) → is_kind Literal r.kind ≡ w → (x : Resolved)
            → ((f : Fault) → x ≡ literal.refused f → LiteralFault (spelt l r) r.start f)
            → Fair (cond w (of_literal x n) (name l verb (left path) path r n))
        by true e (chunks cs) k = tt
        by true e (literal.refused f) k = met path r n f t e (k f refl)
        by false e x k = h r n t (other (is_kind Literal r.kind) (is_kind Name r.kind) e p)

    parse-fair : (rs : List Row) (k : ℕ) → ((r : Row) (n : ℕ) → Reached (each l verb path) (elements rs) k r n → Met l verb i path r n)
        → Fair (parse_field (each l verb path) (elements rs) k)
    unfolding walk
    parse-fair rs k meets =
        flattened-fair (walk (each l verb path) (elements rs) k)
        (walk-fair (each l verb path) (elements rs) k
        (λ r n x. element-fair r n (meets r n x) (is-element rs x.before x.after r x.row)) (elements rs) [] [] k refl refl)

  -- ---- names

  -- where the names of the definition that is opened are fair
  name-step : (path : List ℕ) (r : Row) (n : ℕ) → Met l verb i path r n → is_kind Name r.kind ≡ true
      → ((j : ℕ) → use_of l path r n ≡ Ok tt → Each (path ++ j ∷ [])) → Fair (name l verb (left path) path r n)
  name-step path r n t h on = subst Fair (sym (name-uses.goes l verb path r n)) (by (use_of l path r n) refl (meaning_of l r) refl)
    where
      by : (a : Result ⊤ Reason) → use_of l path r n ≡ a → (m : Meaning) → meaning_of l r ≡ m
          → Fair (or_refused a r (opened r n m (λ j. parse_field (each l verb (path ++ j ∷ [])) (elements_of l j) (suc n))))
      by (Err reason) u m q =
          used path r n reason t h ((name-uses.exactly l path r n reason (name-uses.counting l verb i path r n t)).0 u)
      by (Ok tt) u (definition j) q =
          parse-fair (path ++ j ∷ []) (on j u) (drop (j + 2) l.rows) (suc n) (λ p m x. in-definition t h u j q x)
      by (Ok tt) u (month x) q = tt
      by (Ok tt) u unknown q =
          let y : allowed_by unknown path n ≡ Ok tt = ap (λ (m : Meaning). allowed_by m path n) (sym q) ∙ u in
          let z : ◌≡◌ {A = ℕ} 0 1 = cc in
          absurd (omega arith)

  name-fair : (d : ℕ) (path : List ℕ) → left path ≡ d → Each path
  name-fair zero path e r n t h = name-step path r n t h (λ j u. absurd (omega (arith, use-left l path r n u)))
  name-fair (suc d) path e r n t h = name-step path r n t h (λ j u. name-fair d (path ++ j ∷ []) (omega (arith, left_down path j)))

  value-fault : (f : Fault) → field_of l verb i ≡ refused f → FieldFault l verb i f
  value-fault f =
      by (parse_field (each l verb []) (elements (drop (suc i) l.rows)) 0)
      (parse-fair [] (name-fair most_open [] refl) (drop (suc i) l.rows) 0 (λ r n x. in-value x))
    where
      by : (x : Run) → Fair x → of_run x ≡ refused f → FieldFault l verb i f
      by (done cs n) h e = let z : ◌≡◌ {A = ℕ} 0 1 = cc in absurd (omega arith)
      by (stop g) h e = let q : g ≡ f = cc in subst (FieldFault l verb i) q h

-- ---- their numbers

use-number : {l : Lent} {path : List ℕ} {r : Row} {n : ℕ} {reason : Reason} → UseFault l path r n reason → number_of reason ≤ 15
use-number (not_known x) = omega arith
use-number (cyclic k b) = omega arith
use-number (too-deep k x s) = omega arith
use-number (too_many k x s m) = omega arith

field-number : (l : Lent) (verb : Bool) (i : ℕ) (f : Fault) → FieldFault l verb i f → number_of f.reason ≤ 15
field-number l verb i f (used path r n reason t h u) = use-number u
field-number l verb i f (met path r n g t h m) = omega (arith, literal-refusals.own (spelt l r) r.start g m)

pub refusals : Refusals
refusals = record { value = value-fault; own = field-number }
