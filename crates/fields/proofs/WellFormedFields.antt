-- What a field is resolved into is well-formed: `well-formed-fields`.
-- Assumes nothing.
use Rattle.text.specs.declared.utf8.IllFormed.{IllFormed}
use Rattle.std.specs.Prelude.{Option, Some, None, Result, Ok, Err, ⊤}
use Prim.Native.Nat.{ℕ, zero, suc, ◌+◌, ◌%◌}
use native.Mathlib.Omega.{arith}
use mathlib.Core.Path.{◌≡◌, refl, ap, subst}
use mathlib.Core.Bool.{Bool, true, false, cond, ◌&&◌}
use mathlib.Core.List.{List, [], ◌∷◌, ◌++◌, map}
use lib.ListN.{length, drop}
use lib.Dec.{eqb, leb, ltb}
use borrow.Author.Tests.{leb-true}
use Rattle.std.proofs.Common.{Option, Some, None}
use Rattle.text.specs.Utf8.{Octets, validity_of, is_boundary}
use Rattle.text.specs.Scan.{part}
use Rattle.text.proofs.general.Tests.{both_true}
use Rattle.text.proofs.Rfc3629.{rfc3629}
use Rattle.row.specs.declared.form.Kind.TheVariants.{Literal}
use Rattle.row.specs.declared.fault.Fault.{Fault}
use Rattle.row.specs.declared.fault.Reason.TheVariants.{TooLong, NoRoom, BadRows}
use Rattle.row.specs.Fault.{nowhere}
use Rattle.row.specs.Row.{Row}
use Rattle.row.specs.Limits.{most_bytes, least_scratch, most_open, most_names}
use Rattle.row.specs.Rules.{is_kind}
use Rattle.row.specs.Numbers.{rows_of, are_rows}
use Rattle.text.specs.SameBytes.{same_bytes}
use Rattle.text.specs.Every.{every}
use Rattle.text.proofs.Boundaries.{boundaries}
use Rattle.text.proofs.general.Lists.{every_drop}
use Rattle.lookup.specs.Names.{last_named}
use Rattle.chunk.specs.Chunk.{Chunk}
use Rattle.chunk.specs.WellFormed.{TextsUtf8}
use Rattle.chunk.specs.WellFormed as texts
use Rattle.literal.specs.Literal.{Resolved, chunks, resolve_literal}
use Rattle.literal.specs.Literal as literal
use Rattle.literal.specs.WellFormed.{Passes}
use Rattle.chunk.proofs.WellFormed.{well-formed as chunks-formed}
use Rattle.literal.proofs.WellFormed.{well-formed}
use Rattle.resolve.specs.Resolves.{Value, resolved, refused, of_utf8, checked_file, after, asked}
use Rattle.resolve.specs.OneLiteral.{is_span, value_of, literal_of}
use Rattle.resolve.specs.Checks.{Lent, every_span, is_value, month_in, is_valid, is_text, is_month, every_month, are_months, are_lent, is_right, lent_of}
use Rattle.resolve.specs.Runs.{Run, done, stop, of_literal}
use Rattle.values.specs.Field.{is_element, elements, behind, onward, walk, flattened, parse_field}
use Rattle.values.specs.Field.{element, Meaning, definition, month, unknown, month_of, or_month, spelt, meaning_of, on_path, known}
use Rattle.values.specs.Field.{opened, name, of_run, field_of}
use Rattle.fields.specs.OneField.{value_at}
use Rattle.fields.specs.WellFormedFields.{WellFormedFields}

-- ---- what is lent

span-text : (s : List ℕ) (a e : ℕ) → Octets s → is_span s a e ≡ true → Octets (part s a e)
span-text s a e o h =
    let b = both_true (leb a e) (is_boundary s a && is_boundary s e) h in
    let c = both_true (is_boundary s a) (is_boundary s e) b.1 in
    boundaries.between s a e o (leb-true a e b.0) c.0 c.1

element-spans : (s : List ℕ) (rs : List Row) → every_span s rs ≡ true → every_span s (elements rs) ≡ true
unfolding every elements
element-spans s [] h = h
element-spans s (r ∷ rs) h =
    let b = both_true (is_span s r.start r.end) (every_span s rs) h in by (is_element r) b.0 (element-spans s rs b.1)
  where
    by : (w : Bool) → is_span s r.start r.end ≡ true → every_span s (elements rs) ≡ true → every_span s (cond w (r ∷ elements rs) []) ≡ true
    by true x y = rw (x, y) refl
    by false x y = refl

-- where a name means a month, the month's text is UTF-8
abbrev Right : Meaning → Type 0
Right (definition i) = Unit {0}
Right (month t) = Octets t
Right unknown = Unit {0}

valid-text : (s : List ℕ) → is_valid (validity_of s) ≡ true → Octets s
valid-text s e = (rfc3629.accepts s).0 (by (validity_of s) e)
  where
    by : (v : Result ⊤ IllFormed) → is_valid v ≡ true → v ≡ (Ok tt)
    by (Ok tt) e = refl
    by (Err n) e = let z : ◌≡◌ {A = ℕ} 0 1 = ap (λ (b : Bool). cond b 1 0) e in absurd (omega arith)

is-text : (words : List ℕ) (a e : ℕ) → is_text words a e ≡ true → Octets (part words a e)
is-text words a e h = valid-text (part words a e) (both_true (leb e (length words)) _ (both_true (leb a e) _ h).1).1

month-right : (w words : List ℕ) (rs : List Row) → every_month words rs ≡ true → Right (month_of w (map (month_in words) rs))
unfolding every month_of
month-right w words [] h = tt
month-right w words (r ∷ rs) h =
    let b = both_true (is_month words r) (every_month words rs) h in
    by (same_bytes (month_in words r).word w) (is-text words r.start r.end (both_true (is_text words r.kind r.detail) _ b.0).1)
    (month-right w words rs b.1)
  where
    by : (x : Bool) → Octets (part words r.start r.end) → Right (month_of w (map (month_in words) rs))
        → Right (cond x (month (part words r.start r.end)) (month_of w (map (month_in words) rs)))
    by true o m = o
    by false o m = m

-- the file is UTF-8, spans lie on its boundaries, and the texts of months are UTF-8
record Good (l : Lent) : Type 0 where
  pub file : Octets l.file
  pub rows : every_span l.file l.rows ≡ true
  pub months : (w : List ℕ) → Right (month_of w l.months)

lent-good : (file rows months words : List ℕ) → Octets file → are_lent file rows months words ≡ true → Good (lent_of file rows months words)
unfolding are_lent are_months
lent-good file rows months words o h =
    let b = both_true (every_span file (rows_of rows)) (are_months months words) (both_true (are_rows rows) _ h).1 in
    record {
      file = o;
      rows = b.0;
      months = λ w. month-right w words (rows_of months) (both_true (eqb (length months % 4) 0) _ b.1).1;
    }

-- ---- what a value holds

abbrev is_resolved : Value → ℕ
is_resolved (resolved cs n) = 1
is_resolved (refused f) = 0

abbrev chunks_in : Value → List Chunk
chunks_in (resolved cs n) = cs
chunks_in (refused f) = []

-- ---- elements one after the other

abbrev Gives : Run → Type 0
Gives (done cs n) = TextsUtf8 cs
Gives (stop f) = Unit {0}

onward-gives : (x : Run) (g : ℕ → Run) → Gives x → ((n : ℕ) → Gives (g n)) → Gives (onward x g)
onward-gives (done cs n) g h k = by (g n) (k n)
  where
    by : (y : Run) → Gives y → Gives (behind cs y)
    by (done ds m) z = chunks-formed.append h z
    by (stop f) z = tt
onward-gives (stop f) g h k = tt

flattened-gives : (x : Run) → Gives x → Gives (flattened x)
flattened-gives (done cs n) h = well-formed.joins cs h
flattened-gives (stop f) h = tt

cond-gives : (w : Bool) (x y : Run) → Gives x → Gives y → Gives (cond w x y)
cond-gives true x y h k = h
cond-gives false x y h k = k

-- a row with a right span comes to chunks whose texts are UTF-8
abbrev Each : List ℕ → (Row → ℕ → Run) → Type 0
Each s one = (r : Row) (n : ℕ) → is_span s r.start r.end ≡ true → Gives (one r n)

walk-gives : (s : List ℕ) (one : Row → ℕ → Run) → Each s one → (rs : List Row) (n : ℕ) → every_span s rs ≡ true → Gives (walk one rs n)
unfolding walk every
walk-gives s one h [] n e = texts.none
walk-gives s one h (r ∷ rs) n e =
    let b = both_true (is_span s r.start r.end) (every_span s rs) e in
    onward-gives (one r n) (walk one rs) (h r n b.0) (λ m. walk-gives s one h rs m b.1)

-- ---- names

module _ (l : Lent) (good : Good l) (verb : Bool) where
  element-gives : (one : Row → ℕ → Run) → Each l.file one → Each l.file (element l verb one)
  element-gives one h r n e =
      cond-gives (is_kind Literal r.kind) _ (one r n)
      (by (resolve_literal verb (spelt l r) r.start) (λ cs. well-formed.texts verb (spelt l r) r.start cs (span-text _ _ _ good.file e))) (h r n e)
    where
      by : (x : Resolved) → ((cs : List Chunk) → x ≡ chunks cs → TextsUtf8 cs) → Gives (of_literal x n)
      by (chunks cs) k = k cs refl
      by (literal.refused f) k = tt

  parse_gives : (one : Row → ℕ → Run) → Each l.file one → (k n : ℕ) → Gives (parse_field (element l verb one) (elements (drop k l.rows)) n)
  parse_gives one h k n =
      flattened-gives (walk (element l verb one) (elements (drop k l.rows)) n)
      (walk-gives l.file (element l verb one) (element-gives one h) (elements (drop k l.rows)) n
      (element-spans l.file (drop k l.rows) (every_drop (λ (r : Row). is_span l.file r.start r.end) k l.rows good.rows)))

  meaning-right : (r : Row) → Right (meaning_of l r)
  meaning-right r = by (last_named l.file (spelt l r) l.rows)
    where
      by : (f : Option ℕ) → Right (or_month f (month_of (spelt l r) l.months))
      by (Some i) = tt
      by None = good.months (spelt l r)

  known-gives : (path : List ℕ) (r : Row) (m : Meaning) (go : Run) → Gives go → Gives (known path r m go)
  known-gives path r (definition i) go h = cond-gives (on_path i path) _ go tt h
  known-gives path r (month t) go h = h
  known-gives path r unknown go h = tt

  opened-gives : (r : Row) (n : ℕ) (m : Meaning) (value : ℕ → Run) → Right m → ((i : ℕ) → Gives (value i)) → Gives (opened r n m value)
  opened-gives r n (definition i) value m h = h i
  opened-gives r n (month t) value m h = texts.next m texts.none
  opened-gives r n unknown value m h = tt

  name-gives : (left : ℕ) (path : List ℕ) → Each l.file (name l verb left path)
  unfolding name
  name-gives zero path r n e = known-gives path r (meaning_of l r) _ tt
  name-gives (suc left) path r n e =
      known-gives path r (meaning_of l r) _
      (cond-gives (ltb n most_names) _ _
      (opened-gives r n (meaning_of l r) _ (meaning-right r)
      (λ i. parse_gives (name l verb left (path ++ i ∷ [])) (name-gives left (path ++ i ∷ [])) (i + 2) (suc n))) tt)

  field-gives : (i n : ℕ) (cs : List Chunk) → field_of l verb i ≡ resolved cs n → TextsUtf8 cs
  field-gives i n cs = by (parse_field _ _ 0) (parse_gives (name l verb most_open []) (name-gives most_open []) (suc i) 0)
    where
      by : (x : Run) → Gives x → of_run x ≡ resolved cs n → TextsUtf8 cs
      by (done ds m) h e = subst TextsUtf8 (ap chunks_in e) h
      by (stop f) h e = absurd (omega (arith, ap is_resolved e))

-- ---- what a call resolves

-- a call that resolves has passed its checks: the file is UTF-8, the rows or places are right, and the value is v
record AnsweredWell (s : List ℕ) (good : Bool) (x v : Value) : Type 0 where
  pub file : Octets s
  pub right : good ≡ true
  pub value : x ≡ v

passed-text : (file : List ℕ) → checked_file file ≡ Ok tt → Octets file
unfolding checked_file
passed-text file = by (leb (length file) most_bytes) (validity_of file) (nowhere TooLong) (rfc3629.accepts file).0
  where
    by : (w : Bool) (v : Result ⊤ IllFormed) (f : Fault) → (v ≡ Ok tt → Octets file) → cond w (of_utf8 v) (Err f) ≡ Ok tt → Octets file
    by true (Ok tt) f h e = h refl
    by true (Err n) f h e = let z : ◌≡◌ {A = ℕ} 0 1 = cc in absurd (omega arith)
    by false v f h e = let z : ◌≡◌ {A = ℕ} 0 1 = cc in absurd (omega arith)

answered : (file : List ℕ) (good : Bool) (w : ℕ) (value : Value) (cs : List Chunk) (n : ℕ) → asked file good w value ≡ resolved cs n
    → AnsweredWell file good value (resolved cs n)
answered file good w value cs n = by (checked_file file) good (leb least_scratch w) (nowhere NoRoom) (nowhere BadRows) (passed-text file)
  where
    by : (x : Result ⊤ Fault) (good room : Bool) (f g : Fault) → (x ≡ Ok tt → Octets file)
        → after x (cond good (cond room value (refused f)) (refused g)) ≡ resolved cs n → AnsweredWell file good value (resolved cs n)
    by (Ok tt) true true f g h e = record { file = h refl; right = refl; value = e }
    by (Ok tt) true false f g h e = absurd (omega (arith, ap is_resolved e))
    by (Ok tt) false room f g h e = absurd (omega (arith, ap is_resolved e))
    by (Err k) good room f g h e = absurd (omega (arith, ap is_resolved e))

field-passes : (file rows : List ℕ) (which : ℕ) (verb : Bool) (months words : List ℕ) (w n : ℕ) (cs : List Chunk)
    → value_at file rows which verb months words w ≡ resolved cs n → Passes cs
field-passes file rows which verb months words w n cs e =
    let a = answered file (is_right file rows which months words) w (field_of (lent_of file rows months words) verb which) cs n e in
    let b = both_true (are_lent file rows months words) (is_value (drop which (rows_of rows))) a.right in
    well-formed.value cs (field-gives (lent_of file rows months words) (lent-good file rows months words a.file b.0) verb which n cs a.value)

literal-passes : (file : List ℕ) (a e : ℕ) (verb : Bool) (w n : ℕ) (cs : List Chunk) → literal_of file a e verb w ≡ resolved cs n → Passes cs
literal-passes file a e verb w n cs h =
    let x = answered file (is_span file a e) w (value_of (resolve_literal verb (part file a e) a)) cs n h in
    well-formed.value cs
    (by (resolve_literal verb (part file a e) a) (λ ds. well-formed.texts verb (part file a e) a ds (span-text file a e x.file x.right)) x.value)
  where
    by : (y : Resolved) → ((ds : List Chunk) → y ≡ chunks ds → TextsUtf8 ds) → value_of y ≡ resolved cs n → TextsUtf8 cs
    by (chunks ds) k e = subst TextsUtf8 (ap chunks_in e) (well-formed.joins ds (k ds refl))
    by (literal.refused f) k e = absurd (omega (arith, ap is_resolved e))

pub well-formed-fields : WellFormedFields
well-formed-fields = record {
  file = passed-text;
  texts = λ file rows months words verb i n cs o h. field-gives (lent_of file rows months words) (lent-good file rows months words o h) verb i n cs;
  passes = λ file rows months words verb i n cs o h e.
      well-formed.value cs (field-gives (lent_of file rows months words) (lent-good file rows months words o h) verb i n cs e);
  field = field-passes;
  literal = literal-passes;
}
