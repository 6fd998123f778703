-- The list of commands as the constant of src/names.rt has it: for each row the length of its name, three bytes for its meaning, and the name.
-- Names of one octet are left out: `meaning_one` of src/meaning.rt knows them.
--     names                the bytes of the constant. For src/names.rt.
--     code_of, decoded     the number of a row's three bytes, and the meaning that it stands for. For src/meaning.rt.
--     SpanOf               between which bytes a name of so many octets is to be looked for. For src/meaning.rt.
-- Assumes nothing.
use Rattle.std.specs.Prelude.{ℕ, ◌+◌, ◌*◌, ◌/◌, ◌%◌, ◌≤◌, ◌≡◌, cond, List, [], ◌∷◌, ◌++◌, length, drop, eqb}
use Rattle.command.specs.declared.meaning.Meaning.{Meaning}
use Rattle.command.specs.declared.meaning.Meaning.TheVariants.{Itself, Letter, Accent, Slash, Copyright, Hyphenation, Unknown}
use Rattle.text.specs.Strings.{utf8}
use Rattle.text.specs.SameBytes.{same_bytes}
use Rattle.command.specs.Commands.{CommandRow, commands}

-- a row of the constant
pub record NameRow : Type 0 where
  pub key : List ℕ
  pub x : ℕ
  pub y : ℕ
  pub z : ℕ

-- the number of three bytes, the most significant first
unfoldable pub code_of : ℕ → ℕ → ℕ → ℕ
code_of x y z = (x * 256 + y) * 256 + z

-- the meaning that a number stands for: its top four bits say which, and the others are the character
unfoldable pub decoded : ℕ → Meaning
decoded c =
    cond (eqb (c / 0x100000) 0) (Letter c)
    (cond (eqb (c / 0x100000) 2) Itself
    (cond (eqb (c / 0x100000) 3) Copyright
    (cond (eqb (c / 0x100000) 5) (Accent (c % 0x100000)) Unknown)))

-- the number of a meaning. Slash and Hyphenation have only names of one octet and Unknown has none, so these three need no number of their own
abbrev pub number_of : Meaning → ℕ
number_of Itself = 0x200000
number_of (Letter c) = c
number_of (Accent m) = 0x500000 + m
number_of Slash = 0x700000
number_of Copyright = 0x300000
number_of Hyphenation = 0x700000
number_of Unknown = 0x700000

abbrev pub row_of : CommandRow → NameRow
row_of r = record {
  key = utf8 r.name;
  x = number_of r.means / 65536;
  y = number_of r.means / 256 % 256;
  z = number_of r.means % 256;
}

-- the rows but for those whose names have one octet
unfoldable pub long : List CommandRow → List CommandRow
long [] = []
long (r ∷ rs) = cond (eqb (length (utf8 r.name)) 1) (long rs) (r ∷ long rs)

unfoldable pub rows_of : List CommandRow → List NameRow
rows_of [] = []
rows_of (r ∷ rs) = row_of r ∷ rows_of rs

unfoldable pub flat : List NameRow → List ℕ
flat [] = []
flat (r ∷ rs) = length r.key ∷ r.x ∷ r.y ∷ r.z ∷ r.key ++ flat rs

unfoldable pub names : List ℕ
names = flat (rows_of (long commands))

-- what the first row with this name stands for
unfoldable pub meaning_by : List NameRow → List ℕ → Meaning
meaning_by [] name = Unknown
meaning_by (r ∷ rs) name = cond (same_bytes r.key name) (decoded (code_of r.x r.y r.z)) (meaning_by rs name)

-- rows begin at two bytes of the constant, and those between them say of every name of n octets what all rows say
pub record SpanOf (n from to : ℕ) : Type 0 where
  pub rows : List NameRow
  pub order : from ≤ to
  pub inside : to ≤ length names
  pub here : drop from names ≡ flat rows ++ drop to names
  pub says : (name : List ℕ) → length name ≡ n → meaning_by rows name ≡ meaning_by (rows_of (long commands)) name
