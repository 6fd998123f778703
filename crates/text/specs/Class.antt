-- Classes of code points. For src/class.rt: `is_whitespace`, `is_control`, `holds_of`.
-- Assumes nothing.
use Rattle.std.specs.Prelude.{ℕ, Bool, false, not, ◌&&◌, ◌||◌, List, [], ◌∷◌, eqb}
use Rattle.text.specs.Range.{Range, ◌–◌, within, among}
use Rattle.text.specs.declared.class.Test.{Test}
use Rattle.text.specs.declared.class.Test.TheVariants.{Whitespace, Key, IdStart, IdContinue, Digit, Comma, QuotationMark, Equals}
use Rattle.text.specs.declared.class.Test.TheVariants.{Hash, Percent, OpeningBrace, ClosingBrace, Brace, Newline, Dollar}

-- [01:Strict reading] [Unicode:PropList] White_Space
unfoldable pub white_space : List Range
white_space =
    0x0009 – 0x000D ∷
    0x0020 – 0x0020 ∷
    0x0085 – 0x0085 ∷
    0x00A0 – 0x00A0 ∷
    0x1680 – 0x1680 ∷
    0x2000 – 0x200A ∷
    0x2028 – 0x2029 ∷
    0x202F – 0x202F ∷
    0x205F – 0x205F ∷
    0x3000 – 0x3000 ∷
    []

-- [01:Strict reading] [Unicode:UnicodeData] General_Category Cc
unfoldable pub control : List Range
control = 0x0000 – 0x001F ∷ 0x007F – 0x009F ∷ []

unfoldable pub is_whitespace : ℕ → Bool
is_whitespace c = among white_space c

unfoldable pub is_control : ℕ → Bool
is_control c = among control c

-- one of these characters
abbrev pub mark : List ℕ → ℕ → Bool
mark [] c = false
mark (m ∷ ms) c = eqb c m || mark ms c

-- [raw.rs:is_key] not , }
unfoldable pub is_key : ℕ → Bool
is_key c = not (mark (0x2C ∷ 0x7D ∷ []) c) && not (is_control c) && not (is_whitespace c)

-- [raw.rs:is_id_continue] not @ { } " # ' ( ) , = % \ ~
abbrev pub id_marks : List ℕ
id_marks =
    0x40 ∷ 0x7B ∷ 0x7D ∷ 0x22 ∷ 0x23 ∷ 0x27 ∷ 0x28 ∷ 0x29 ∷ 0x2C ∷ 0x3D ∷ 0x25 ∷ 0x5C ∷ 0x7E ∷ []

unfoldable pub is_id_continue : ℕ → Bool
is_id_continue c = not (mark id_marks c) && not (is_control c) && not (is_whitespace c)

-- [raw.rs:is_id_start] not : < - >
unfoldable pub is_id_start : ℕ → Bool
is_id_start c = not (mark (0x3A ∷ 0x3C ∷ 0x2D ∷ 0x3E ∷ []) c) && is_id_continue c

-- the named tests
unfoldable pub holds_of : Test → ℕ → Bool
holds_of Whitespace c = is_whitespace c
holds_of Key c = is_key c
holds_of IdStart c = is_id_start c
holds_of IdContinue c = is_id_continue c
holds_of Digit c = within (0x30 – 0x39) c
holds_of Comma c = eqb c 0x2C
holds_of QuotationMark c = eqb c 0x22
holds_of Equals c = eqb c 0x3D
holds_of Hash c = eqb c 0x23
holds_of Percent c = eqb c 0x25
holds_of OpeningBrace c = eqb c 0x7B
holds_of ClosingBrace c = eqb c 0x7D
holds_of Brace c = mark (0x7B ∷ 0x7D ∷ []) c
holds_of Newline c = eqb c 0x0A
holds_of Dollar c = eqb c 0x24
