-- The proof of specs/Sequence.antt: `check`. A sequence of the grammar passes the check, part by part. Conversely, where rows pass, what
-- the check awaits says what they are (`Rest`), and the grammar's sequence is put together from the last row to the first.
-- Assumes nothing.
use Prim.Native.Nat.{ℕ}
use native.Mathlib.Omega.{arith}
use mathlib.Core.Path.{◌≡◌, refl, sym, ap, ◌∙◌, subst}
use mathlib.Core.Bool.{Bool, true, false, cond, ◌&&◌, ◌||◌}
use mathlib.Core.List.{List, [], ◌∷◌, ◌++◌, append_assoc}
use lib.Dec.{eqb, leb}
use borrow.Author.Tests.{eqb-true, leb-true, le-leb}
use Rattle.text.proofs.general.Tests.{both_true}
use Rattle.row.specs.declared.form.Kind.{Kind}
use Rattle.row.specs.declared.form.Kind.TheVariants as kind
use Rattle.row.specs.Row.{Row, kind_of}
use Rattle.row.specs.Rules.{Await, part, type, key, value, chunk, chunks, cause, wrong}
use Rattle.row.specs.Rules.{is_kind, only, or_chunk, begun, next, is_detail, run, whole, is_rows}
use Rattle.row.specs.Sequence.{Plain, Cause, Element, literal, name, Elements, one, more, Named, named, Fields, field, Item}
use Rattle.row.specs.Sequence.{Sequence, Check, entry, definition, preamble, damage}
use Rattle.row.specs.Sequence as grammar
use Rattle.row.proofs.rules.Append.{run-append, run-wrong, rows_append}

-- ---- a sequence of the grammar passes

row_on : (k : Kind) {r : Row} (a : Await) (rs : List Row) → eqb (kind_of k) 10 ≡ false → Plain k r → run a (r ∷ rs) ≡ run (next a (kind_of k)) rs
unfolding run
row_on k a rs e p = rw (p.is, p.zero, e)

-- a literal or a name, where either may come
element-on : {r : Row} (f : Bool) (a : Await) (rs : List Row) → next a 6 ≡ chunks f → next a 7 ≡ chunks f → Element r →
    run a (r ∷ rs) ≡ run (chunks f) rs
element-on f a rs h k (literal p) = row_on kind.Literal a rs refl p ∙ ap (λ (x : Await). run x rs) h
element-on f a rs h k (name p) = row_on kind.Name a rs refl p ∙ ap (λ (x : Await). run x rs) k

elements-on : {rs : List Row} (f : Bool) (a : Await) → next a 6 ≡ chunks f → next a 7 ≡ chunks f → Elements rs → run a rs ≡ chunks f
unfolding run next
elements-on f a h k (one x) = element-on f a [] h k x
elements-on f a h k (more {rs = rs} x y) = element-on f a rs h k x ∙ elements-on f (chunks f) refl refl y

named-on : (k : Kind) {rs : List Row} (f : Bool) (a : Await) → eqb (kind_of k) 10 ≡ false → next a (kind_of k) ≡ value f → Named k rs →
    run a rs ≡ chunks f
unfolding next
named-on k f a e h (named {n} {v} {rs} p q x) =
    row_on k a (v ∷ rs) e p ∙ ap (λ (b : Await). run b (v ∷ rs)) h ∙ row_on kind.Value (value f) rs refl q ∙ elements-on f (chunk f) refl refl x

-- a field may come: right after the key, or after a field's value
data Open : Await → Type 0 where
  bare : Open (part true)
  filled : Open (chunks true)

open-whole : {a : Await} → Open a → whole a ≡ true
open-whole bare = refl
open-whole filled = refl

open-field : {a : Await} → Open a → next a 4 ≡ value true
unfolding next
open-field bare = refl
open-field filled = refl

fields-on : {fs : List Row} (a : Await) → Open a → Fields fs → Open (run a fs)
unfolding run
fields-on a x grammar.Fields.none = x
fields-on a x (field {f} {rs} n fs) = rw (run-append a f rs, named-on kind.FieldName true a refl (open-field x) n) (fields-on (chunks true) filled fs)

part-on : {p : List Row} → Item p → is_rows p ≡ true
unfolding is_rows next run
part-on (entry {e} {t} {k} {fs} x y z w) =
    rw (row_on kind.Entry (part false) (t ∷ k ∷ fs) refl x, row_on kind.EntryType type (k ∷ fs) refl y, row_on kind.Key key fs refl z)
    (open-whole (fields-on (part true) bare w))
part-on (definition n) = rw (named-on kind.DefinitionName false (part false) refl refl n)
part-on (preamble x) = rw (row_on kind.Preamble (part false) [] refl x)
part-on (damage {d} {c} x y) =
    rw (row_on kind.Damage (part false) (c ∷ []) refl x, y.is, le-leb 2 c.detail y.least, le-leb c.detail 10 y.most)

sequence-on : {rs : List Row} → Sequence rs → is_rows rs ≡ true
unfolding is_rows run
sequence-on grammar.Sequence.none = refl
sequence-on (grammar.Sequence.part {p} {rs} x y) = rows_append p rs (part-on x) (sequence-on y)

-- ---- rows that pass are a sequence

-- the rows are fields, and then a sequence
record Fielded (rs : List Row) : Type 0 where
  fs : List Row
  parts : List Row
  fields : Fields fs
  sequence : Sequence parts
  same : rs ≡ fs ++ parts

-- what may follow a value: fields, if it is an entry's, and then a sequence
abbrev After : Bool → List Row → Type 0
After true rs = Fielded rs
After false rs = Sequence rs

record Elemented (f : Bool) (rs : List Row) : Type 0 where
  es : List Row
  others : List Row
  elements : Elements es
  after : After f others
  same : rs ≡ es ++ others

data Valued (f : Bool) : List Row → Type 0 where
  valued : {v : Row} {rs : List Row} → Plain kind.Value v → Elemented f rs → Valued f (v ∷ rs)

data ElementsOrOver (f : Bool) (rs : List Row) : Type 0 where
  some : Elemented f rs → ElementsOrOver f rs
  over : After f rs → ElementsOrOver f rs

data Keyed : List Row → Type 0 where
  keyed : {k : Row} {rs : List Row} → Plain kind.Key k → Fielded rs → Keyed (k ∷ rs)

data Typed : List Row → Type 0 where
  typed : {t : Row} {rs : List Row} → Plain kind.EntryType t → Keyed rs → Typed (t ∷ rs)

data Caused : List Row → Type 0 where
  caused : {c : Row} {rs : List Row} → Cause c → Sequence rs → Caused (c ∷ rs)

-- how rows are made up that pass where a is awaited
abbrev Rest : Await → List Row → Type 0
Rest (part f) rs = After f rs
Rest type rs = Typed rs
Rest key rs = Keyed rs
Rest (value f) rs = Valued f rs
Rest (chunk f) rs = Elemented f rs
Rest (chunks f) rs = ElementsOrOver f rs
Rest cause rs = Caused rs
Rest wrong rs = ⊥

-- a sequence without a field before it may follow a value
later : (f : Bool) {rs : List Row} → Sequence rs → After f rs
later true x = record { fs = []; parts = _; fields = grammar.Fields.none; sequence = x; same = refl }
later false x = x

entry_first : {e : Row} {rs : List Row} → Plain kind.Entry e → Typed rs → Sequence (e ∷ rs)
entry_first {e} x (typed {t} y (keyed {k} z w)) =
    subst (λ (l : List Row). Sequence (e ∷ t ∷ k ∷ l)) (sym w.same) (grammar.Sequence.part (entry x y z w.fields) w.sequence)

definition-first : {n : Row} {rs : List Row} → Plain kind.DefinitionName n → Valued false rs → Sequence (n ∷ rs)
definition-first {n} x (valued {v} y w) =
    subst (λ (l : List Row). Sequence (n ∷ v ∷ l)) (sym w.same) (grammar.Sequence.part (definition (named x y w.elements)) w.after)

field-first : {n : Row} {rs : List Row} → Plain kind.FieldName n → Valued true rs → Fielded (n ∷ rs)
field-first {n} x (valued {v} y w) =
    let a = w.after in
    record {
      fs = (n ∷ v ∷ w.es) ++ a.fs;
      parts = a.parts;
      fields = field (named x y w.elements) a.fields;
      sequence = a.sequence;
      same =
          ap (λ (l : List Row). n ∷ v ∷ l)
          (w.same ∙ ap (λ (l : List Row). w.es ++ l) a.same ∙ sym (append_assoc w.es a.fs a.parts));
    }

damage-first : {d : Row} {rs : List Row} → Plain kind.Damage d → Caused rs → Sequence (d ∷ rs)
damage-first x (caused y z) = grammar.Sequence.part (damage x y) z

element-first : (f : Bool) {r : Row} {rs : List Row} → Element r → ElementsOrOver f rs → Elemented f (r ∷ rs)
element-first f {r} {rs} x (some w) =
    record { es = r ∷ w.es; others = w.others; elements = more x w.elements; after = w.after; same = ap (λ (l : List Row). r ∷ l) w.same }
element-first f {r} {rs} x (over a) = record { es = r ∷ []; others = rs; elements = one x; after = a; same = refl }

-- ---- what a row that passes was

no : {A : Type 0} → false ≡ true → A
no e = let z : ◌≡◌ {A = ℕ} 0 1 = cc in absurd (omega arith)

-- a test that fails breaks the rules; so where the rows pass, it did not fail
passes : (b : Bool) (a : Await) (rs : List Row) → whole (run (cond b a wrong) rs) ≡ true → (b ≡ true) × (whole (run a rs) ≡ true)
passes true a rs h = (refl, h)
passes false a rs h = no (sym (ap whole (run-wrong rs)) ∙ h)

plain : (k : Kind) (r : Row) → eqb (kind_of k) 10 ≡ false → is_kind k r.kind ≡ true → is_detail r.kind r.detail ≡ true → Plain k r
plain k r e x d =
    let is = eqb-true r.kind (kind_of k) x in
    let h : eqb r.detail 0 ≡ true = rw (is, e) at d in
    record { is = is; zero = eqb-true r.detail 0 h }

cause-of : (r : Row) → is_kind kind.Cause r.kind ≡ true → is_detail r.kind r.detail ≡ true → Cause r
cause-of r x d =
    let is = eqb-true r.kind 10 x in
    let h : (leb 2 r.detail && leb r.detail 10) ≡ true = rw is at d in
    let y = both_true (leb 2 r.detail) (leb r.detail 10) h in
    record { is = is; least = leb-true 2 r.detail y.0; most = leb-true r.detail 10 y.1 }

module _ (r : Row) (rs : List Row) (d : is_detail r.kind r.detail ≡ true) (go : (a : Await) → whole (run a rs) ≡ true → Rest a rs) where
  -- the row begins a part, or a field where f allows one
  begun-rest : (f : Bool) → whole (run (begun f r.kind) rs) ≡ true → After f (r ∷ rs)
  begun-rest f = by (is_kind kind.Entry r.kind) (is_kind kind.FieldName r.kind && f) (is_kind kind.DefinitionName r.kind) (is_kind kind.Preamble r.kind) refl refl refl refl
    where
      by : (e n m p : Bool) → is_kind kind.Entry r.kind ≡ e → (is_kind kind.FieldName r.kind && f) ≡ n →
          is_kind kind.DefinitionName r.kind ≡ m → is_kind kind.Preamble r.kind ≡ p →
          whole (run (cond e type (cond n (value true) (cond m (value false) (cond p (part false) (only kind.Damage cause r.kind))))) rs) ≡ true →
          After f (r ∷ rs)
      by true n m p x y z w h = later f (entry_first (plain kind.Entry r refl x d) (go type h))
      by false true m p x y z w h =
          let t = both_true (is_kind kind.FieldName r.kind) f y in
          subst (λ (b : Bool). After b (r ∷ rs)) (sym t.1) (field-first (plain kind.FieldName r refl t.0 d) (go (value true) h))
      by false false true p x y z w h = later f (definition-first (plain kind.DefinitionName r refl z d) (go (value false) h))
      by false false false true x y z w h = later f (grammar.Sequence.part (preamble (plain kind.Preamble r refl w d)) (go (part false) h))
      by false false false false x y z w h =
          let t = passes (is_kind kind.Damage r.kind) cause rs h in
          later f (damage-first (plain kind.Damage r refl t.0 d) (go cause t.1))

  -- the row is a literal or a name, or what else may come
  element-rest : (f : Bool) (a : Await) (P : Type 0) → (Elemented f (r ∷ rs) → P) → (whole (run a rs) ≡ true → P) →
      whole (run (or_chunk f a r.kind) rs) ≡ true → P
  element-rest f a P on off = by (is_kind kind.Literal r.kind) (is_kind kind.Name r.kind) refl refl
    where
      by : (l n : Bool) → is_kind kind.Literal r.kind ≡ l → is_kind kind.Name r.kind ≡ n → whole (run (cond (l || n) (chunks f) a) rs) ≡ true → P
      by true n x y h = on (element-first f (literal (plain kind.Literal r refl x d)) (go (chunks f) h))
      by false true x y h = on (element-first f (name (plain kind.Name r refl y d)) (go (chunks f) h))
      by false false x y h = off h

  next-rest : (a : Await) → whole (run (next a r.kind) rs) ≡ true → Rest a (r ∷ rs)
  unfolding next
  next-rest (part f) h = begun-rest f h
  next-rest type h = let t = passes _ key rs h in typed (plain kind.EntryType r refl t.0 d) (go key t.1)
  next-rest key h = let t = passes _ (part true) rs h in keyed (plain kind.Key r refl t.0 d) (go (part true) t.1)
  next-rest (value f) h = let t = passes _ (chunk f) rs h in valued (plain kind.Value r refl t.0 d) (go (chunk f) t.1)
  next-rest (chunk f) h = element-rest f wrong (Elemented f (r ∷ rs)) (λ x. x) (λ k. absurd (go wrong k)) h
  next-rest (chunks f) h = element-rest f (begun f r.kind) (ElementsOrOver f (r ∷ rs)) some (λ k. over (begun-rest f k)) h
  next-rest cause h = let t = passes _ (part false) rs h in caused (cause-of r t.0 d) (go (part false) t.1)
  next-rest wrong h = go wrong h

-- where no row is left
end_rest : (a : Await) → whole a ≡ true → Rest a []
end_rest (part f) h = later f grammar.Sequence.none
end_rest type h = no h
end_rest key h = no h
end_rest (value f) h = no h
end_rest (chunk f) h = no h
end_rest (chunks f) h = over (later f grammar.Sequence.none)
end_rest cause h = no h
end_rest wrong h = no h

rest : (rs : List Row) (a : Await) → whole (run a rs) ≡ true → Rest a rs
unfolding run
rest [] a h = end_rest a h
rest (r ∷ rs) a h =
    let t = passes (is_detail r.kind r.detail) (next a r.kind) rs h in
    next-rest r rs t.0 (λ b k. rest rs b k) a t.1

pub check : Check
unfolding is_rows
check = record { accepts = λ rs. (rest rs (part false), sequence-on) }
