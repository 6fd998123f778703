-- Rows in seven bytes each [01:Rows and their packing]: "Packed, a row is 7 bytes, most significant bit first: kind 4 bits, detail 4,
-- start 24, length 24."
--     pack_row, packing          the bytes of a row, and of rows
--     unpack_row, unpacking      the row of seven bytes, and bytes taken as rows, seven by seven
--     three_at, unpack_at        the number, and the row, from a byte on
--     numbers_in                 the four numbers of a row
--     end_fits, span_fits        the tests of spans
--     InSeven                    a row that seven bytes hold
-- Assumes nothing.
use Rattle.std.specs.Prelude.{ℕ, ◌+◌, ◌-◌, ◌*◌, ◌/◌, ◌%◌, ◌≤◌, Bool, ◌&&◌, List, [], ◌∷◌, ◌++◌, get_or, leb}
use Rattle.row.specs.Row.{Row, row_of}
use Rattle.row.specs.Limits.{most_bytes}
use Rattle.pack.specs.Digits.{three_bytes, of_bytes}

abbrev pub pack_row : Row → List ℕ
pack_row r = (r.kind * 16 + r.detail) ∷ (three_bytes r.start ++ three_bytes (r.end - r.start))

unfoldable pub packing : List Row → List ℕ
packing [] = []
packing (r ∷ rs) = pack_row r ++ packing rs

abbrev pub unpack_row : ℕ → ℕ → ℕ → ℕ → ℕ → ℕ → ℕ → Row
unpack_row h a b c d e f = row_of (h / 16) (h % 16) (of_bytes (a ∷ b ∷ c ∷ [])) (of_bytes (a ∷ b ∷ c ∷ []) + of_bytes (d ∷ e ∷ f ∷ []))

unfoldable pub unpacking : List ℕ → List Row
unpacking [] = []
unpacking (a ∷ []) = []
unpacking (a ∷ b ∷ []) = []
unpacking (a ∷ b ∷ c ∷ []) = []
unpacking (a ∷ b ∷ c ∷ d ∷ []) = []
unpacking (a ∷ b ∷ c ∷ d ∷ e ∷ []) = []
unpacking (a ∷ b ∷ c ∷ d ∷ e ∷ f ∷ []) = []
unpacking (h ∷ a ∷ b ∷ c ∷ d ∷ e ∷ f ∷ l) = unpack_row h a b c d e f ∷ unpacking l

-- the number of the three bytes from p on, and the row of the seven
abbrev pub three_at : List ℕ → ℕ → ℕ
three_at s p = of_bytes (get_or s p 0 ∷ get_or s (p + 1) 0 ∷ get_or s (p + 2) 0 ∷ [])

abbrev pub unpack_at : List ℕ → ℕ → Row
unpack_at s p = row_of (get_or s p 0 / 16) (get_or s p 0 % 16) (three_at s (p + 1)) (three_at s (p + 1) + three_at s (p + 4))

-- the four numbers of a row
abbrev pub numbers_in : Row → List ℕ
numbers_in r = r.kind ∷ r.detail ∷ r.start ∷ r.end ∷ []

-- ---- spans

-- [01:Rows and their packing] "or an end passes 16,777,215"
abbrev pub end_fits : Row → Bool
end_fits r = leb r.end most_bytes

-- "Packing refuses likewise, and where a start passes its end."
abbrev pub span_fits : Row → Bool
span_fits r = end_fits r && leb r.start r.end

-- a row that seven bytes hold
pub record InSeven (r : Row) : Type 0 where
  pub kind : r.kind ≤ 10
  pub detail : r.detail ≤ 10
  pub order : r.start ≤ r.end
  pub end : r.end ≤ most_bytes
