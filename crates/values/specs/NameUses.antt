-- The use of a name [01:Numbers a caller can get]: "At one use: 12, 13, 14, 15", each exactly if. The proof is `name-uses` of
-- proofs/NameUses.antt.
--     Defines, Known, BeingResolved   the definitions and month words with the name that is used
--     UseFault                        with what a use is refused, and when
--     use_of, or_refused              what the use itself answers, before anything is opened
--     Reached, Met                    the elements that are met while a value is resolved
--     Counts, Counting                a definition is the one of its name that counts
--     NameUses                        the theorems
-- Assumes nothing.
use Rattle.std.specs.Prelude.{ℕ, suc, ◌-◌, ◌≤◌, ◌<◌, ◌≡◌, ◌↔◌, Bool, true, cond, length, drop, Some, Result, Ok, Err, ⊤}
use mathlib.Core.List.{List, [], ◌∷◌, ◌++◌, Memᴰ}
use Rattle.row.specs.declared.form.Kind.TheVariants.{Name, DefinitionName}
use Rattle.row.specs.declared.fault.Reason.{Reason}
use Rattle.row.specs.declared.fault.Reason.TheVariants.{UnknownAbbreviation, Cyclic, TooDeep, TooManyNames}
use Rattle.row.specs.Row.{Row}
use Rattle.row.specs.Rules.{is_kind}
use Rattle.row.specs.Limits.{most_open, most_names}
use Rattle.lookup.specs.Names.{last_named, row_no}
use Rattle.chunk.specs.Chunk.{Chunk}
use Rattle.resolve.specs.Resolves.{resolved, refused}
use Rattle.resolve.specs.Checks.{Month, Lent}
use Rattle.resolve.specs.Runs.{Run, done}
use Rattle.values.specs.Field.{elements, walk, parse_field, element, Meaning, definition, month, unknown, spelt, meaning_of, on_path, at_use}
use Rattle.values.specs.Field.{elements_of, opened, name, field_of}
use Rattle.values.specs.Uses.{limits}

-- ---- when the use in row r is refused. The definitions that are being resolved stand in the rows `path`, and n names are resolved so far

-- row i is a definition with the name that row r has, byte by byte
pub record Defines (l : Lent) (r : Row) (i : ℕ) : Type 0 where
  pub there : i < length l.rows
  pub kind : is_kind DefinitionName (row_no l.rows i).kind ≡ true
  pub same : spelt l (row_no l.rows i) ≡ spelt l r

-- a definition has the name, or a month word
pub data Known (l : Lent) (r : Row) : Type 0 where
  defined : (i : ℕ) → Defines l r i → Known l r
  a-month : (m : Month) → Memᴰ m l.months → m.word ≡ spelt l r → Known l r

-- a definition with the name is being resolved
abbrev pub BeingResolved : Lent → List ℕ → Row → Type 0
BeingResolved l path r = (i : ℕ) × Memᴰ i path × Defines l r i

-- "At one use: 12, 13, 14, 15": "the 33rd name open at once and a field's 4,097th name are refused, month words included"
pub data UseFault (l : Lent) (path : List ℕ) (r : Row) (n : ℕ) : Reason → Type 0 where
  not_known : (Known l r → ⊥) → UseFault l path r n UnknownAbbreviation
  cyclic : Known l r → BeingResolved l path r → UseFault l path r n Cyclic
  too-deep : Known l r → (BeingResolved l path r → ⊥) → most_open ≤ length path → UseFault l path r n TooDeep
  too_many : Known l r → (BeingResolved l path r → ⊥) → length path < most_open → most_names ≤ n → UseFault l path r n TooManyNames

-- ---- what the use itself answers, before anything is opened

-- how many names are left to open
abbrev pub left : List ℕ → ℕ
left path = most_open - length path

abbrev pub allowed_by : Meaning → List ℕ → ℕ → Result ⊤ Reason
allowed_by (definition i) path n = cond (on_path i path) (Err Cyclic) (limits (left path) n)
allowed_by (month t) path n = limits (left path) n
allowed_by unknown path n = Err UnknownAbbreviation

abbrev pub use_of : Lent → List ℕ → Row → ℕ → Result ⊤ Reason
use_of l path r n = allowed_by (meaning_of l r) path n

-- a use that is allowed goes on, and one that is not is refused
abbrev pub or_refused : Result ⊤ Reason → Row → Run → Run
or_refused (Ok tt) r go = go
or_refused (Err reason) r go = at_use reason r

-- ---- the elements that are met

-- what an element comes to while the definitions `path` are being resolved
abbrev pub each : Lent → Bool → List ℕ → Row → ℕ → Run
each l verb path = element l verb (name l verb (left path) path)

-- r is one of the elements rs, which are resolved one after the other from k names on, and those before it come to n names
pub record Reached (one : Row → ℕ → Run) (rs : List Row) (k : ℕ) (r : Row) (n : ℕ) : Type 0 where
  pub before : List Row
  pub after : List Row
  pub chunks : List Chunk
  pub row : rs ≡ before ++ r ∷ after
  pub so_far : walk one before k ≡ done chunks n

-- while the value whose row is number i is resolved, the element r is met, with the definitions `path` being resolved and n names so far: it is
-- reached in the value itself, or in the definition j of a name whose use was met and is allowed
pub data Met (l : Lent) (verb : Bool) (i : ℕ) : List ℕ → Row → ℕ → Type 0 where
  in-value : {r : Row} {n : ℕ} → Reached (each l verb []) (elements (drop (suc i) l.rows)) 0 r n → Met l verb i [] r n
  in-definition : {path : List ℕ} {q : Row} {m : ℕ} → Met l verb i path q m → is_kind Name q.kind ≡ true → use_of l path q m ≡ Ok tt
      → (j : ℕ) → meaning_of l q ≡ definition j
      → {r : Row} {n : ℕ} → Reached (each l verb (path ++ j ∷ [])) (elements_of l j) (suc m) r n → Met l verb i (path ++ j ∷ []) r n

-- ---- the theorems

-- "the last definition of a name counts": row i is that of its name, and so is every row of the path
abbrev pub Counts : Lent → ℕ → Type 0
Counts l i = last_named l.file (spelt l (row_no l.rows i)) l.rows ≡ Some i

abbrev pub Counting : Lent → List ℕ → Type 0
Counting l path = (i : ℕ) → Memᴰ i path → Counts l i

pub record NameUses : Type 0 where
  -- wherever an element is met, every definition that is being resolved is the one that counts
  pub counting : (l : Lent) (verb : Bool) (i : ℕ) (path : List ℕ) (r : Row) (n : ℕ) → Met l verb i path r n → Counting l path
  -- 12, 13, 14 and 15, each exactly if
  pub exactly : (l : Lent) (path : List ℕ) (r : Row) (n : ℕ) (reason : Reason) → Counting l path
      → (use_of l path r n ≡ Err reason) ↔ UseFault l path r n reason
  -- "A name is cyclic exactly if it is already being resolved"
  pub cyclic : (l : Lent) (path : List ℕ) (r : Row) (n : ℕ) → Counting l path → (use_of l path r n ≡ Err Cyclic) ↔ BeingResolved l path r
  -- `name` goes by what the use answers: it is refused, or its meaning is opened
  pub goes : (l : Lent) (verb : Bool) (path : List ℕ) (r : Row) (n : ℕ)
      → name l verb (left path) path r n
      ≡ or_refused (use_of l path r n) r
      (opened r n (meaning_of l r) (λ j. parse_field (each l verb (path ++ j ∷ [])) (elements_of l j) (suc n)))
  -- a value in which a use is met that is refused is refused so, at the use
  pub refuses : (l : Lent) (verb : Bool) (i : ℕ) (path : List ℕ) (r : Row) (n : ℕ) (reason : Reason)
      → Met l verb i path r n → is_kind Name r.kind ≡ true → use_of l path r n ≡ Err reason
      → field_of l verb i ≡ refused (record { reason = reason; start = r.start; end = r.end })
  -- "a field resolves at most 4,096 names"
  pub most : (l : Lent) (verb : Bool) (i n : ℕ) (cs : List Chunk) → field_of l verb i ≡ resolved cs n → n ≤ most_names
