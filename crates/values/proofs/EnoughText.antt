-- How much text a value can need: `enough-text`.
-- Assumes nothing.
use Rattle.std.specs.Prelude.{Option, Some, None}
use Prim.Native.Nat.{ℕ, zero, suc, ◌+◌, ◌-◌, ◌*◌, ◌≤◌}
use native.Mathlib.Nat.{add-mul}
use native.Mathlib.Omega.{arith}
use mathlib.Core.Path.{◌≡◌, refl, ap, sym, subst, ◌∙◌}
use mathlib.Core.Bool.{Bool, true, false, cond}
use mathlib.Core.List.{List, [], ◌∷◌, ◌++◌}
use lib.ListN.{length, drop, length-append}
use lib.Dec.{ltb}
use Rattle.std.proofs.Common.{Option, Some, None}
use Rattle.row.specs.declared.form.Kind.TheVariants.{Literal}
use Rattle.row.specs.declared.fault.Fault.{Fault}
use Rattle.row.specs.Row.{Row}
use Rattle.row.specs.Rules.{is_kind}
use Rattle.text.specs.SameBytes.{same_bytes}
use Rattle.text.proofs.general.Parts.{part-size}
use Rattle.row.specs.Limits.{most_open, most_names}
use Rattle.lookup.specs.Names.{last_named}
use Rattle.chunk.specs.Chunk.{Chunk}
use Rattle.turn.specs.Content.{flatten}
use Rattle.literal.specs.Literal.{Resolved, chunks, resolve_literal}
use Rattle.literal.specs.Literal as literal
use Rattle.literal.specs.Rows.{texts_of}
use Rattle.literal.proofs.Flattening.{flattening}
use Rattle.literal.proofs.WellFormed.{well-formed}
use Rattle.resolve.specs.Resolves.{Value, resolved, refused}
use Rattle.resolve.specs.Checks.{Lent, Month}
use Rattle.resolve.specs.Runs.{Run, done, stop, of_literal}
use Rattle.values.specs.Field.{is_element, elements, behind, onward, walk, flattened, parse_field}
use Rattle.values.specs.Field.{element, Meaning, definition, month, unknown, month_of, or_month, spelt, meaning_of, on_path, known}
use Rattle.values.specs.Field.{opened, name, of_run, field_of}
use Rattle.values.specs.EnoughText.{literal_bytes, month_bytes, most, EnoughText}

abbrev size : List Chunk → ℕ
size cs = length (texts_of cs)

-- ---- sums

size-both : (cs ds : List Chunk) → size (cs ++ ds) ≡ size cs + size ds
size-both cs ds = ap length (flattening.texts-both cs ds) ∙ length-append (texts_of cs) (texts_of ds)

size-flat : (cs : List Chunk) → size (flatten cs) ≡ size cs
size-flat cs = ap length (flattening.texts-flat cs)

-- ---- rows

drop-bytes : (k : ℕ) (rs : List Row) → literal_bytes (drop k rs) ≤ literal_bytes rs
unfolding literal_bytes
drop-bytes zero rs = omega arith
drop-bytes (suc k) [] = omega arith
drop-bytes (suc k) (r ∷ rs) = let h = drop-bytes k rs in omega arith

element-bytes : (rs : List Row) → literal_bytes (elements rs) ≤ literal_bytes rs
unfolding literal_bytes elements
element-bytes [] = omega arith
element-bytes (r ∷ rs) = by (is_element r) (element-bytes rs)
  where
    by : (w : Bool) → literal_bytes (elements rs) ≤ literal_bytes rs
        → literal_bytes (cond w (r ∷ elements rs) []) ≤ cond (is_kind Literal r.kind) (r.end - r.start) 0 + literal_bytes rs
    by true h = omega arith
    by false h = omega arith

-- ---- what a run of elements costs: `most` for each name, and what its own literals may need

module _ (l : Lent) (verb : Bool) where
  abbrev B : ℕ
  B = most l

  -- from n names on, a run that needs w bytes besides those for its names
  abbrev Costs : ℕ → ℕ → Run → Type 0
  Costs w n (done cs m) = (k : ℕ) × (m ≡ n + k) × (size cs ≤ w + k * B)
  Costs w n (stop f) = Unit {0}

  stop-costs : (w v n : ℕ) (x : Run) → w ≤ v → Costs w n x → Costs v n x
  stop-costs w v n (done cs m) le c = (c.0, c.1, let h = c.2 in omega arith)
  stop-costs w v n (stop f) le c = tt

  flattened-costs : (w n : ℕ) (x : Run) → Costs w n x → Costs w n (flattened x)
  flattened-costs w n (done cs m) c = (c.0, c.1, subst (λ (z : ℕ). z ≤ w + c.0 * B) (sym (size-flat cs)) c.2)
  flattened-costs w n (stop f) c = tt

  onward-costs : (w v n : ℕ) (x : Run) (g : ℕ → Run) → Costs w n x → ((m : ℕ) → Costs v m (g m)) → Costs (w + v) n (onward x g)
  onward-costs w v n (done cs m) g c h = by (g m) (h m)
    where
      by : (y : Run) → Costs v m y → Costs (w + v) n (behind cs y)
      by (done ds p) d = (
        c.0 + d.0,
        let a = c.1 in let b = d.1 in omega arith,
        let a = c.2 in let b = d.2 in let e = size-both cs ds in let f = add-mul c.0 d.0 B in omega arith,
      )
      by (stop f) d = tt
  onward-costs w v n (stop f) g c h = tt

  -- the use of a name needs no bytes besides those for the names that it resolves
  abbrev Each : (Row → ℕ → Run) → Type 0
  Each one = (r : Row) (n : ℕ) → Costs 0 n (one r n)

  abbrev own : Row → ℕ
  own r = 2 * cond (is_kind Literal r.kind) (r.end - r.start) 0

  element-costs : (one : Row → ℕ → Run) → Each one → (r : Row) (n : ℕ) → Costs (own r) n (element l verb one r n)
  element-costs one h r n = by (is_kind Literal r.kind) (resolve_literal verb (spelt l r) r.start) (well-formed.twice verb (spelt l r) r.start) (h r n)
    where
      by : (w : Bool) (x : Resolved) → ((cs : List Chunk) → x ≡ chunks cs → size cs ≤ 2 * length (spelt l r)) → Costs 0 n (one r n)
          → Costs (2 * cond w (r.end - r.start) 0) n (cond w (of_literal x n) (one r n))
      by true (chunks cs) t c = (0, omega arith, let a = t cs refl in let b = part-size l.file r.start r.end in omega arith)
      by true (literal.refused f) t c = tt
      by false x t c = c

  walk-costs : (one : Row → ℕ → Run) → Each one → (rs : List Row) (n : ℕ) → Costs (2 * literal_bytes rs) n (walk (element l verb one) rs n)
  unfolding walk literal_bytes texts_of
  walk-costs one h [] n = (0, omega arith, omega arith)
  walk-costs one h (r ∷ rs) n =
      stop-costs (own r + 2 * literal_bytes rs) _ n (onward (element l verb one r n) (walk (element l verb one) rs)) (omega arith)
      (onward-costs (own r) (2 * literal_bytes rs) n (element l verb one r n) (walk (element l verb one) rs) (element-costs one h r n) (walk-costs one h rs))

  parse-costs : (one : Row → ℕ → Run) → Each one → (k n : ℕ) → Costs B n (parse_field (element l verb one) (elements (drop k l.rows)) n)
  parse-costs one h k n =
      let rs = elements (drop k l.rows) in let a = element-bytes (drop k l.rows) in let b = drop-bytes k l.rows in
      let run = walk (element l verb one) rs n in
      flattened-costs B n run (stop-costs (2 * literal_bytes rs) B n run (omega arith) (walk-costs one h rs n))

  -- ---- names

  month-size : (w : List ℕ) (ms : List Month) (t : List ℕ) → month_of w ms ≡ month t → length t ≤ month_bytes ms
  unfolding month_of month_bytes
  month-size w [] t e = absurd (omega (arith, ap tag e))
    where
      tag : Meaning → ℕ
      tag (definition i) = 0
      tag (month t) = 1
      tag unknown = 2
  month-size w (m ∷ ms) t e = by (same_bytes m.word w) (month-size w ms t) e
    where
      text_in : Meaning → List ℕ
      text_in (definition i) = []
      text_in (month t) = t
      text_in unknown = []

      by : (x : Bool) → (month_of w ms ≡ month t → length t ≤ month_bytes ms) → cond x (month m.text) (month_of w ms) ≡ month t
          → length t ≤ length m.text + month_bytes ms
      by true h e = let a : m.text ≡ t = ap text_in e in subst (λ (z : List ℕ). length z ≤ length m.text + month_bytes ms) a (omega arith)
      by false h e = let a = h e in omega arith

  known-costs : (path : List ℕ) (r : Row) (n : ℕ) (m : Meaning) (go : Run) → Costs 0 n go → Costs 0 n (known path r m go)
  known-costs path r n (definition i) go c = by (on_path i path) _
    where
      by : (w : Bool) (f : Fault) → Costs 0 n (cond w (stop f) go)
      by true f = tt
      by false f = c
  known-costs path r n (month t) go c = c
  known-costs path r n unknown go c = tt

  opened-costs : (r : Row) (n : ℕ) (m : Meaning) (value : ℕ → Run) → ((t : List ℕ) → m ≡ month t → length t ≤ B)
      → ((i : ℕ) → Costs B (suc n) (value i)) → Costs 0 n (opened r n m value)
  unfolding texts_of
  opened-costs r n (definition i) value t h = by (value i) (h i)
    where
      by : (x : Run) → Costs B (suc n) x → Costs 0 n x
      by (done cs m) c = (suc c.0, let a = c.1 in omega arith, let a = c.2 in let b = add-mul 1 c.0 B in omega arith)
      by (stop f) c = tt
  opened-costs r n (month s) value t h =
      (1, omega arith, let a = t s refl in let b = length-append s [] in omega arith)
  opened-costs r n unknown value t h = tt

  meaning-size : (r : Row) (t : List ℕ) → meaning_of l r ≡ month t → length t ≤ B
  meaning-size r t = by (last_named l.file (spelt l r) l.rows) (month_of (spelt l r) l.months) (month-size (spelt l r) l.months t)
    where
      tag : Meaning → ℕ
      tag (definition i) = 0
      tag (month t) = 1
      tag unknown = 2

      by : (f : Option ℕ) (m : Meaning) → (m ≡ month t → length t ≤ month_bytes l.months) → or_month f m ≡ month t → length t ≤ B
      by (Some i) m h e = absurd (omega (arith, ap tag e))
      by None m h e = let a = h e in omega arith

  name-costs : (left : ℕ) (path : List ℕ) → Each (name l verb left path)
  unfolding name
  name-costs zero path r n = known-costs path r n (meaning_of l r) _ tt
  name-costs (suc left) path r n =
      known-costs path r n (meaning_of l r) _
      (by (ltb n most_names) _ _
      (opened-costs r n (meaning_of l r) _ (meaning-size r)
      (λ i. parse-costs (name l verb left (path ++ i ∷ [])) (name-costs left (path ++ i ∷ [])) (i + 2) (suc n))))
    where
      by : (w : Bool) (x : Run) (f : Fault) → Costs 0 n x → Costs 0 n (cond w x (stop f))
      by true x f c = c
      by false x f c = tt

  field-costs : (i n : ℕ) (cs : List Chunk) → field_of l verb i ≡ resolved cs n → size cs ≤ suc n * B
  field-costs i n cs = by (parse_field _ _ 0) (parse-costs (name l verb most_open []) (name-costs most_open []) (suc i) 0)
    where
      is_resolved : Value → ℕ
      is_resolved (resolved ds m) = 1
      is_resolved (refused f) = 0

      size_in : Value → ℕ
      size_in (resolved ds m) = size ds
      size_in (refused f) = 0

      names_in : Value → ℕ
      names_in (resolved ds m) = m
      names_in (refused f) = 0

      by : (x : Run) → Costs B 0 x → of_run x ≡ resolved cs n → size cs ≤ suc n * B
      by (done ds m) c e =
          let a = ap size_in e in let b : m ≡ n = ap names_in e in let d = c.2 in let k : c.0 ≡ n = (let x = c.1 in omega arith) in
          let f = add-mul 1 n B in let g : c.0 * B ≡ n * B = ap (λ (z : ℕ). z * B) k in omega arith
      by (stop f) c e = absurd (omega (arith, ap is_resolved e))

pub enough-text : EnoughText
enough-text = record { value = field-costs }
