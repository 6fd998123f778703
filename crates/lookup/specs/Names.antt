-- Which definition row has a name [01:Resolving and writing]: "the last definition of a name counts, names compared byte by byte". The index
-- plays no part here.
--     name_of          the bytes of a row's span, as far as the file goes
--     is_named         the row is a definition of the name
--     last_named       the number, from 0, of the last such row
--     row_no           row i
-- Assumes nothing.
use Rattle.std.specs.Prelude.{ℕ, suc, Bool, cond, ◌&&◌, List, [], ◌∷◌, get_or, Option, Some, None}
use Rattle.text.specs.Scan.{part}
use Rattle.text.specs.SameBytes.{same_bytes}
use Rattle.row.specs.declared.form.Kind.TheVariants.{DefinitionName}
use Rattle.row.specs.Row.{Row, row_of}
use Rattle.row.specs.Rules.{is_kind}

abbrev pub name_of : List ℕ → Row → List ℕ
name_of file r = part file r.start r.end

unfoldable pub is_named : List ℕ → List ℕ → Row → Bool
is_named file name r = is_kind DefinitionName r.kind && same_bytes (name_of file r) name

-- the answer for a row and those behind it: what those behind it answer, or else this row
unfoldable pub later : Option ℕ → Bool → Option ℕ
later (Some n) b = Some (suc n)
later None b = cond b (Some 0) None

unfoldable pub last_named : List ℕ → List ℕ → List Row → Option ℕ
last_named file name [] = None
last_named file name (r ∷ rs) = later (last_named file name rs) (is_named file name r)

-- row i; past the last row, a row of zeros
abbrev pub row_no : List Row → ℕ → Row
row_no rs i = get_or rs i (row_of 0 0 0 0)
