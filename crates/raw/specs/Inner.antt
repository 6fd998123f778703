-- Definitions for the contracts of the inner functions of src/: nothing here stands in a public contract.
-- Assumes nothing.
use Rattle.row.specs.declared.fault.Fault.{Fault}
use Rattle.std.specs.Prelude.{ℕ, ◌≤◌, ◌<◌, ◌≡◌, Bool, false, List, [], ◌∷◌, length, get_or, Result, Ok, Err}
use Rattle.row.specs.declared.form.Kind.TheVariants as kind
use Rattle.row.specs.Row.{row}
use Rattle.raw.specs.Reader.{Out, ok, bad}

-- neither a brace nor a quotation mark stands at i
pub record Undelimited (s : List ℕ) (i : ℕ) : Type 0 where
  pub no-brace : i < length s → get_or s i 0 ≡ 0x7B → ⊥
  pub no-quote : i < length s → get_or s i 0 ≡ 0x22 → ⊥

-- what comes of a literal from a to e, by the answer for the delimiter that closes it
abbrev pub literal_of : ℕ → ℕ → Result ℕ Fault → Out
literal_of a e (Ok q) = ok q (row kind.Literal a e ∷ [])
literal_of a e (Err f) = bad f

-- only ASCII passes the test t
abbrev pub AsciiOnly : (ℕ → Bool) → Type 0
AsciiOnly t = (c : ℕ) → 0x80 ≤ c → t c ≡ false

-- a closure whose calls have the results P answers as the test t
abbrev pub Tests : (ℕ → Bool → Type 0) → (ℕ → Bool) → Type 0
Tests P t = (c : ℕ) → c < 256 → (r : Bool) → P c r → r ≡ t c
