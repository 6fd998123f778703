-- Rows [01:Rows and their packing], and lent numbers that rows are laid over.
-- Assumes nothing.
use Rattle.std.specs.Prelude.{ℕ, zero, suc, ◌+◌, List, [], ◌∷◌}
use Rattle.row.specs.declared.form.Kind.{Kind}
use Rattle.row.specs.declared.form.Kind.TheVariants.{Preamble, Entry, EntryType, Key, FieldName, Value, Literal, Name, DefinitionName, Damage, Cause}

-- [01:Rows and their packing] the numbers of the kinds
abbrev pub kind_of : Kind → ℕ
kind_of Preamble = 0
kind_of Entry = 1
kind_of EntryType = 2
kind_of Key = 3
kind_of FieldName = 4
kind_of Value = 5
kind_of Literal = 6
kind_of Name = 7
kind_of DefinitionName = 8
kind_of Damage = 9
kind_of Cause = 10

pub record Row : Type 0 where
  pub kind : ℕ
  pub detail : ℕ
  pub start : ℕ
  pub end : ℕ

abbrev pub row_of : ℕ → ℕ → ℕ → ℕ → Row
row_of k d a b = record { kind = k; detail = d; start = a; end = b }

-- a row of a kind, with a detail; and with detail 0
abbrev pub row_with : Kind → ℕ → ℕ → ℕ → Row
row_with k d a b = row_of (kind_of k) d a b

abbrev pub row : Kind → ℕ → ℕ → Row
row k a b = row_with k 0 a b

-- what a row says of its span; and the mark of detail 0
pub record Mark : Type 0 where
  pub kind : Kind
  pub detail : ℕ

abbrev pub plain : Kind → Mark
plain k = record { kind = k; detail = 0 }

abbrev pub marked : Mark → ℕ → ℕ → Row
marked m a b = row_with m.kind m.detail a b

-- a row d places on
abbrev pub row_up : ℕ → Row → Row
row_up d r = record { kind = r.kind; detail = r.detail; start = r.start + d; end = r.end + d }

unfoldable pub moved : ℕ → List Row → List Row
moved d [] = []
moved d (r ∷ rs) = row_up d r ∷ moved d rs

-- ---- lent numbers

-- the rows' numbers in order
unfoldable pub flat : List Row → List ℕ
flat [] = []
flat (r ∷ rs) = r.kind ∷ r.detail ∷ r.start ∷ r.end ∷ flat rs

-- the lent numbers with r written as row n, where that row fits whole; else as they were
unfoldable pub put_row : List ℕ → ℕ → Row → List ℕ
put_row [] n r = []
put_row (a ∷ []) n r = a ∷ []
put_row (a ∷ b ∷ []) n r = a ∷ b ∷ []
put_row (a ∷ b ∷ c ∷ []) n r = a ∷ b ∷ c ∷ []
put_row (a ∷ b ∷ c ∷ d ∷ l) zero r = r.kind ∷ r.detail ∷ r.start ∷ r.end ∷ l
put_row (a ∷ b ∷ c ∷ d ∷ l) (suc n) r = a ∷ b ∷ c ∷ d ∷ put_row l n r

-- the lent numbers with these rows written from row n on, each only where it fits
unfoldable pub overlay : List ℕ → ℕ → List Row → List ℕ
overlay b n [] = b
overlay b n (r ∷ rs) = overlay (put_row b n r) (suc n) rs
