-- Definitions for the contracts of inner functions: of `line_end` in src/ending.rt, a run of octets without line ends and where it stops; of
-- `surely_fits` in src/format.rt; and of src/sentence.rt.
-- Assumes nothing.
use Rattle.std.specs.Prelude.{ℕ, ◌+◌, ◌-◌, ◌*◌, ◌≤◌, ◌<◌, ◌≡◌, Bool, true, false, cond, not, ◌&&◌, ◌||◌, List, [], ◌∷◌, get_or, ltb}
use Rattle.text.specs.Range.{within}
use Rattle.text.specs.Every.{every}
use Rattle.text.specs.Utf8.{tail, is_scalar, octets, utf8_of}
use Rattle.text.specs.Scan.{part, code}
use Rattle.casing.specs.Mapping.{numbers}
use Rattle.casing.specs.Lowers.{lowers}
use Rattle.casing.specs.Casing.{is_settled}
use Rattle.chunk.specs.Chunk.{ChunkRow}
use Rattle.chunk.specs.Format.{is_line_end}
use Rattle.chunk.specs.Characters.{Scalars}

-- no octet is a line end
unfoldable pub plain : List ℕ → Bool
plain [] = true
plain (b ∷ t) = not (is_line_end b) && plain t

-- the text is empty or begins with a line end
abbrev pub stops : List ℕ → Bool
stops [] = true
stops (b ∷ t) = is_line_end b

-- two more octets for each chunk row than m times as many as its text has: `format_verbatim` makes no more of them than once as many, and
-- `format_sentence` than three times
unfoldable pub most_of : ℕ → List ChunkRow → ℕ
most_of m [] = 0
most_of m (r ∷ rs) = m * (r.to - r.from) + 2 + most_of m rs

-- ---- sentence case

-- an octet of ASCII that is no line end
abbrev pub is_plain : ℕ → Bool
is_plain b = ltb b 0x80 && not (is_line_end b)

-- a character that is no line end, and that lowering changes by ASCII's rule alone
abbrev pub is_quiet : ℕ → Bool
is_quiet c = is_plain c || is_settled c

-- the text from a to b is such a character, or none but such characters
abbrev pub QuietChar : List ℕ → ℕ → ℕ → Type 0
QuietChar t a b = (c : ℕ) × (is_scalar c ≡ true) × (octets c ≡ part t a b) × (is_quiet c ≡ true)

abbrev pub QuietRun : List ℕ → ℕ → ℕ → Type 0
QuietRun t a b = (cs : List ℕ) × Scalars cs × (utf8_of cs ≡ part t a b) × (every is_quiet cs ≡ true)

-- the lent table is the one for lowering, where an octet beyond ASCII stands between i and to
abbrev pub Lowers : List ℕ → ℕ → ℕ → List ℕ → Type 0
Lowers t i to table = (k : ℕ) → i ≤ k → k < to → 0x80 ≤ get_or t k 0 → table ≡ numbers lowers

-- the character that a text's first octet begins, or none
abbrev pub heads : List ℕ → List ℕ
heads [] = []
heads (b ∷ t) = cond (within tail b) [] (code (b ∷ t) ∷ [])

-- the Rust's `first` after these characters of a Normal text
unfoldable pub still_first : Bool → Bool → List ℕ → Bool
still_first f w [] = f
still_first f w (c ∷ cs) = cond (is_line_end c && w) (still_first f w cs) false
