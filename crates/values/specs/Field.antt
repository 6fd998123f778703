-- Fields and names resolved [resolve.rs:parse_field, resolve_abbreviation]. Nothing is said of buffers.
--     walk, parse_field           the elements of a value one after the other
--     meaning_of, name            what a name means, and what its use resolves to
--     field_of                    the value of a row
-- Field and name call each other in the Rust; here a field takes as a parameter what names come to, and a name's depth falls.
-- Assumes nothing.
use Rattle.std.specs.Prelude.{ℕ, zero, suc, ◌+◌, Bool, false, cond, ◌||◌, List, [], ◌∷◌, ◌++◌, drop, eqb, ltb, Option, Some, None}
use Rattle.text.specs.Scan.{part}
use Rattle.row.specs.declared.form.Kind.TheVariants.{Literal, Name}
use Rattle.row.specs.declared.fault.Reason.{Reason}
use Rattle.row.specs.declared.fault.Reason.TheVariants.{UnknownAbbreviation, Cyclic, TooDeep, TooManyNames}
use Rattle.row.specs.Row.{Row}
use Rattle.row.specs.Rules.{is_kind}
use Rattle.text.specs.SameBytes.{same_bytes}
use Rattle.row.specs.Limits.{most_open, most_names}
use Rattle.lookup.specs.Names.{last_named}
use Rattle.chunk.specs.declared.form.Kind.TheVariants.{Normal}
use Rattle.chunk.specs.Chunk.{Chunk, chunk}
use Rattle.turn.specs.Content.{flatten}
use Rattle.literal.specs.Literal.{resolve_literal}
use Rattle.resolve.specs.Resolves.{Value, resolved, refused}
use Rattle.resolve.specs.Runs.{Run, done, stop, of_literal}
use Rattle.resolve.specs.Checks.{Month, Lent}

-- ---- the elements of a value

-- a literal or a name
abbrev pub is_element : Row → Bool
is_element r = is_kind Literal r.kind || is_kind Name r.kind

-- the literals and names that stand in front
unfoldable pub elements : List Row → List Row
elements [] = []
elements (r ∷ rs) = cond (is_element r) (r ∷ elements rs) []

-- a run with the chunks cs before its own
abbrev pub behind : List Chunk → Run → Run
behind cs (done ds n) = done (cs ++ ds) n
behind cs (stop f) = stop f

-- a run, and behind it the run that g gives for the number of names so far
abbrev pub onward : Run → (ℕ → Run) → Run
onward (done cs n) g = behind cs (g n)
onward (stop f) g = stop f

-- each element by `one`, which is told the number of names so far. "The answer carries the number of names resolved, month words included"
unfoldable pub walk : (Row → ℕ → Run) → List Row → ℕ → Run
walk one [] n = done [] n
walk one (r ∷ rs) n = onward (one r n) (walk one rs)

-- [01:Resolving and writing] "Flattening joins neighbours of the same kind, Normal or Verbatim, after each level"
abbrev pub flattened : Run → Run
flattened (done cs n) = done (flatten cs) n
flattened (stop f) = stop f

abbrev pub parse_field : (Row → ℕ → Run) → List Row → ℕ → Run
parse_field one rs n = flattened (walk one rs n)

-- what an element comes to: a literal is resolved, and `name` says what a name comes to
abbrev pub element : Lent → Bool → (Row → ℕ → Run) → Row → ℕ → Run
element l verb name r n =
    cond (is_kind Literal r.kind) (of_literal (resolve_literal verb (part l.file r.start r.end) r.start) n) (name r n)

-- ---- names

-- what a name means: the definition in a row, the text of a month, or nothing
pub data Meaning : Type 0 where
  definition : ℕ → Meaning
  month : List ℕ → Meaning
  unknown : Meaning

-- "of equal month words the first counts"
unfoldable pub month_of : List ℕ → List Month → Meaning
month_of name [] = unknown
month_of name (m ∷ ms) = cond (same_bytes m.word name) (month m.text) (month_of name ms)

-- "The month list is asked only if there is none"
abbrev pub or_month : Option ℕ → Meaning → Meaning
or_month (Some i) m = definition i
or_month None m = m

-- the bytes of a row
abbrev pub spelt : Lent → Row → List ℕ
spelt l r = part l.file r.start r.end

-- "the last definition of a name counts, names compared byte by byte"
abbrev pub meaning_of : Lent → Row → Meaning
meaning_of l r = or_month (last_named l.file (spelt l r) l.rows) (month_of (spelt l r) l.months)

unfoldable pub on_path : ℕ → List ℕ → Bool
on_path i [] = false
on_path i (j ∷ js) = eqb i j || on_path i js

-- a refusal has the place of the use
abbrev pub at_use : Reason → Row → Run
at_use reason r = stop (record { reason = reason; start = r.start; end = r.end })

-- the refusal of a name that is unknown or cyclic; any other name goes on. The definitions whose rows are `path` are being resolved. "A name is
-- cyclic exactly if it is already being resolved"
abbrev pub known : List ℕ → Row → Meaning → Run → Run
known path r (definition i) go = cond (on_path i path) (at_use Cyclic r) go
known path r (month t) go = go
known path r unknown go = at_use UnknownAbbreviation r

-- a definition stands in row i, and its value's elements behind its value row
abbrev pub elements_of : Lent → ℕ → List Row
elements_of l i = elements (drop (i + 2) l.rows)

-- what a name comes to that may be opened: what `value` gives for its definition, or the text of a month
abbrev pub opened : Row → ℕ → Meaning → (ℕ → Run) → Run
opened r n (definition i) value = value i
opened r n (month t) value = done (chunk Normal t r.start r.end ∷ []) (suc n)
opened r n unknown value = at_use UnknownAbbreviation r

-- what the use of a name in row r comes to, with so many names left to open and n resolved so far. "At one use: 12, 13, 14, 15"
unfoldable pub name : Lent → Bool → ℕ → List ℕ → Row → ℕ → Run
name l verb zero path r n = known path r (meaning_of l r) (at_use TooDeep r)
name l verb (suc left) path r n =
    known path r (meaning_of l r)
    (cond (ltb n most_names)
    (opened r n (meaning_of l r) (λ i. parse_field (element l verb (name l verb left (path ++ i ∷ []))) (elements_of l i) (suc n)))
    (at_use TooManyNames r))

-- ---- fields

abbrev pub of_run : Run → Value
of_run (done cs n) = resolved cs n
of_run (stop f) = refused f

-- the value whose row is number i
abbrev pub field_of : Lent → Bool → ℕ → Value
field_of l verb i = of_run (parse_field (element l verb (name l verb most_open [])) (elements (drop (suc i) l.rows)) 0)
