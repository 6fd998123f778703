-- Salvage [01:Salvage]: "Boundaries: each "@" at byte 0 or after byte 0x0A. The bytes before the first, if any, form a piece.
-- Each piece is checked for UTF-8 and read alone. Of a refused piece only kinds 9 (the piece) and 10 remain."
--     cut              the pieces of a file
--     told             the rows that a piece gives
--     salvage_of       the rows that a file gives, each piece at its place
--     Salvage          the contract of `salvage`
-- Assumes nothing.
use Rattle.std.specs.Prelude.{ℕ, ◌+◌, ◌≡◌, Bool, false, cond, ◌&&◌, List, [], ◌∷◌, ◌++◌, length, eqb, leb, Result}
use Rattle.row.specs.declared.form.Kind.TheVariants as kind
use Rattle.row.specs.declared.fault.Fault.{Fault}
use Rattle.row.specs.declared.fault.Reason.TheVariants.{TooLong}
use Rattle.row.specs.Fault.{number_of, nowhere}
use Rattle.row.specs.Row.{Row, row_with, row, moved}
use Rattle.raw.specs.Reader.{Out, ok, again, bad}
use Rattle.row.specs.Limits.{most_bytes}
use Rattle.raw.specs.Read.{strict, reading_out, left_out}

-- ---- boundaries

-- the text begins as an entry does, with "@"
unfoldable pub head : List ℕ → Bool
head [] = false
head (b ∷ s) = eqb b 0x40

-- b ends a line
abbrev pub newline : ℕ → Bool
newline b = eqb b 0x0A

-- some texts, one after the other
abbrev pub Texts : Type 0
Texts = List (List ℕ)

-- a byte in front of the first text
abbrev pub push : ℕ → Texts → Texts
push b [] = (b ∷ []) ∷ []
push b (w ∷ ws) = (b ∷ w) ∷ ws

-- the pieces: a new one begins after a newline where a head follows
unfoldable pub cut : List ℕ → Texts
cut [] = []
cut (b ∷ s) = cond (newline b && head s) ((b ∷ []) ∷ cut s) (push b (cut s))

-- ---- rows

-- why a piece was refused, and where
abbrev pub cause : Fault → Row
cause f = row_with kind.Cause (number_of f.reason) f.start f.end

-- what remains of a refused piece: the damage, and its cause
abbrev pub damaged : List ℕ → Fault → List Row
damaged w f = row kind.Damage 0 (length w) ∷ cause f ∷ []

-- the rows of a piece, by what strict reading says of it
abbrev pub told : List ℕ → Out → List Row
told w (ok q rs) = rs
told w (again q rs a) = rs
told w (bad f) = damaged w f

-- the rows of pieces, the first of which begins at p
unfoldable pub pieces : ℕ → Texts → List Row
pieces p [] = []
pieces p (w ∷ ws) = moved p (told w (strict w)) ++ pieces (p + length w) ws

unfoldable pub salvage_of : List ℕ → List Row
salvage_of s = pieces 0 (cut s)

-- ---- the call

-- "Salvage itself refuses only with 1 and 16" [01:Numbers a caller can get]: 1 here, 16 by `reading_out`
unfoldable pub salvaged : List ℕ → Out
salvaged s = cond (leb (length s) most_bytes) (ok (length s) (salvage_of s)) (bad (nowhere TooLong))

-- `salvage` of the file s over the lent numbers b answers r and leaves b'
pub record Salvage (s b : List ℕ) (r : Result ℕ Fault) (b' : List ℕ) : Type 0 where
  pub answer : r ≡ reading_out (salvaged s) (length b)
  pub rows : b' ≡ left_out (salvaged s) b
