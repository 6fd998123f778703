-- Definitions for the contracts of src/months.rt and src/elements.rt: names, and value and name, which call each other.
--     MonthFound, Means, allowed_of       what a name means in lent numbers and bytes, and whether its use is allowed
--     first_element, only_at, value_from  the elements of a value
--     lent_in, IndexOf, ReadyValue        what value and name resolve from, and what they require
-- Assumes nothing.
use Rattle.values.specs.declared.elements.Element.{Element}
use Rattle.row.specs.declared.fault.Reason.{Reason}
use Rattle.std.specs.Prelude.{ℕ, zero, suc, ◌+◌, ◌≤◌, ◌<◌, ◌≡◌, Bool, cond, List, [], ◌∷◌, length, drop, ltb, Option, Some, None, Result, Ok, Err, ⊤}
use Rattle.text.specs.Scan.{part}
use Rattle.row.specs.declared.fault.Reason.TheVariants.{UnknownAbbreviation, Cyclic, TooDeep, TooManyNames}
use Rattle.row.specs.Row.{Row}
use Rattle.row.specs.Numbers.{rows_of}
use Rattle.row.specs.declared.form.Kind.TheVariants.{Literal, Name}
use Rattle.row.specs.Rules.{is_kind}
use Rattle.row.specs.Limits.{most_open, most_names}
use Rattle.lookup.specs.RowIndex.{Indexed}
use Rattle.resolve.specs.Checks.{Lent, months_of, lent_of}
use Rattle.resolve.specs.Progress.{ReadyTables}
use Rattle.resolve.specs.Runs.{Run}
use Rattle.values.specs.declared.resolver.Resolver.{Resolver}
use Rattle.values.specs.declared.elements.Meaning as code-meaning
use Rattle.values.specs.declared.elements.Meaning.TheVariants as meaning
use Rattle.values.specs.declared.elements.Element.TheVariants as element
use Rattle.values.specs.Field.{Meaning, definition, month, unknown, month_of, on_path, walk, elements, name}
use Rattle.values.specs.Field as field

-- what values are resolved from, as the definitions have it
abbrev pub lent_in : Resolver → Lent
lent_in r = lent_of r.file.now r.rows.now r.months.now r.words.now

-- the text from a to e is the one that the list has for the name; or the list has no such word
abbrev pub MonthFound : List ℕ → List ℕ → List ℕ → Option (ℕ × ℕ) → Type 0
MonthFound l words name (Some (a, e)) = (month_of name (months_of l words) ≡ month (part words a e)) × (a ≤ e) × (e ≤ length words)
MonthFound l words name None = month_of name (months_of l words) ≡ unknown

-- what the code says that a name means is what the definition says
abbrev pub Means : List ℕ → Meaning → Option code-meaning.Meaning → Type 0
Means words (definition i) (Some (meaning.Definition j)) = j ≡ i
Means words (definition i) (Some (meaning.Month a e)) = ⊥
Means words (definition i) None = ⊥
Means words (month t) (Some (meaning.Definition j)) = ⊥
Means words (month t) (Some (meaning.Month a e)) = (t ≡ part words a e) × (a ≤ e) × (e ≤ length words)
Means words (month t) None = ⊥
Means words unknown (Some (meaning.Definition j)) = ⊥
Means words unknown (Some (meaning.Month a e)) = ⊥
Means words unknown None = Unit {0}

-- a definition's row is one of the n rows
abbrev pub RowInside : ℕ → Option code-meaning.Meaning → Type 0
RowInside n (Some (meaning.Definition i)) = i < n
RowInside n (Some (meaning.Month a e)) = Unit {0}
RowInside n None = Unit {0}

-- the first of the rows, if it is an element
abbrev pub first_element : List Row → Option Element
first_element [] = None
first_element (r ∷ rs) =
    cond (is_kind Literal r.kind) (Some (element.Literal r.start r.end))
    (cond (is_kind Name r.kind) (Some (element.Name r.start r.end))
    None)

-- the first two elements: the first is the only one, and a literal; or not
abbrev pub only_of : Option Element → Option Element → Option (ℕ × ℕ)
only_of (Some (element.Literal a e)) None = Some (a, e)
only_of (Some (element.Literal a e)) (Some (element.Literal b f)) = None
only_of (Some (element.Literal a e)) (Some (element.Name b f)) = None
only_of (Some (element.Name a e)) v = None
only_of None v = None

-- the elements of a value begin with number i of the rows
abbrev pub only_at : List ℕ → ℕ → Option (ℕ × ℕ)
only_at rows i = only_of (first_element (rows_of (drop i rows))) (first_element (rows_of (drop (i + 4) rows)))

-- the elements in front of the rows rs, with `left` names left to open, the definitions `path` being resolved and n names so far
abbrev pub value_from : Lent → Bool → ℕ → List ℕ → List Row → ℕ → Run
value_from l verb left path rs n = walk (field.element l verb (name l verb left path)) (elements rs) n

-- "At one use: 12, 13, 14, 15": the last two, with `left` names left to open and n resolved
abbrev pub limits : ℕ → ℕ → Result ⊤ Reason
limits zero n = Err TooDeep
limits (suc left) n = cond (ltb n most_names) (Ok tt) (Err TooManyNames)

-- whether the use of a name is allowed
abbrev pub allowed_of : Option code-meaning.Meaning → List ℕ → ℕ → ℕ → Result ⊤ Reason
allowed_of (Some (meaning.Definition i)) path left n = cond (on_path i path) (Err Cyclic) (limits left n)
allowed_of (Some (meaning.Month a e)) path left n = limits left n
allowed_of None path left n = Err UnknownAbbreviation

-- the index belongs to the rows
abbrev pub IndexOf : Resolver → Type 0
IndexOf r = Indexed r.file.now r.rows.now r.heads.now r.next.now

-- what value and name require: the index, a scratch that is long enough, and a place in a list for each name that may be opened, in which the definitions
-- stand that are being resolved
pub record ReadyValue (r : Resolver) (w held : List ℕ) (left : ℕ) : Type 0 where
  pub index : IndexOf r
  pub ready : ReadyTables w r.tables.names.now r.tables.marks.now
  pub path : (length held ≡ most_open) × (left ≤ most_open)
