-- The names of commands and what each means, after [resolve.rs:execute_command] and [resolve.rs:is_single_char_func].
--     is_single_char_func     whether a character is the whole name of a command. For src/execute.rt.
--     commands, meaning_of    the Rust's list in its order; what a name means. For src/meaning.rt.
-- Assumes nothing.
use Rattle.std.specs.Prelude.{ℕ, Bool, cond, ◌&&◌, ◌||◌, List, [], ◌∷◌}
use Prim.Native.String.{String}
use Rattle.text.specs.Class.{mark}
use Rattle.text.specs.Strings.{utf8}
use Rattle.text.specs.SameBytes.{same_bytes}
use Rattle.command.specs.declared.meaning.Meaning.{Meaning}
use Rattle.command.specs.declared.meaning.Meaning.TheVariants.{Itself, Letter, Accent, Slash, Copyright, Hyphenation, Unknown}

-- [resolve.rs:is_single_char_func] " ´ ` ' ^ ~ = . \ - and, if white space follows the name, b c d H k r u v too
unfoldable pub is_single_char_func : ℕ → Bool → Bool
is_single_char_func c ws =
    mark (0x22 ∷ 0xB4 ∷ 0x60 ∷ 0x27 ∷ 0x5E ∷ 0x7E ∷ 0x3D ∷ 0x2E ∷ 0x5C ∷ 0x2D ∷ []) c
    || (ws && mark (0x62 ∷ 0x63 ∷ 0x64 ∷ 0x48 ∷ 0x6B ∷ 0x72 ∷ 0x75 ∷ 0x76 ∷ []) c)

-- ---- the Rust's list

pub record CommandRow : Type 0 where
  pub name : String
  pub means : Meaning

infix 80 ◌means◌
abbrev pub ◌means◌ : String → Meaning → CommandRow
◌means◌ n m = record { name = n; means = m }

-- [resolve.rs:execute_command] in its order. `Letter c` writes the character c, `Accent m` puts the mark m onto the argument
unfoldable pub commands : List CommandRow
commands =
    "LaTeX" means Itself ∷
    "TeX" means Itself ∷
    "textendash" means Letter 0x2013 ∷
    "textemdash" means Letter 0x2014 ∷
    "textquotesingle" means Letter 0x27 ∷
    "textquotedblleft" means Letter 0x201C ∷
    "textquotedblright" means Letter 0x201D ∷
    "textquoteleft" means Letter 0x2018 ∷
    "textquoteright" means Letter 0x2019 ∷
    "textquotestraightdblbase" means Letter 0x201E ∷
    "quotedblbase" means Letter 0x201E ∷
    "textquotestraightbase" means Letter 0x201A ∷
    "quotesinglbase" means Letter 0x201A ∷
    "textquotedbl" means Letter 0x22 ∷
    "textasciicircum" means Letter 0x5E ∷
    "textasciigrave" means Letter 0x60 ∷
    "textasciitilde" means Letter 0x7E ∷
    "textasteriskcentered" means Letter 0x204E ∷
    "textbackslash" means Letter 0x5C ∷
    "textbar" means Letter 0x7C ∷
    "textbraceleft" means Letter 0x7B ∷
    "textbraceright" means Letter 0x7D ∷
    "textbullet" means Letter 0x2022 ∷
    "textdagger" means Letter 0x2020 ∷
    "textdaggerdbl" means Letter 0x2021 ∷
    "textdollar" means Letter 0x24 ∷
    "textless" means Letter 0x3C ∷
    "textgreater" means Letter 0x3E ∷
    "textexclamdown" means Letter 0xA1 ∷
    "textquestiondown" means Letter 0xBF ∷
    "textordfeminine" means Letter 0xAA ∷
    "textordmasculine" means Letter 0xBA ∷
    "textperiodcentered" means Letter 0xB7 ∷
    "textregistered" means Letter 0xAE ∷
    "texttrademark" means Letter 0x2122 ∷
    "textsection" means Letter 0xA7 ∷
    "textunderscore" means Letter 0x5F ∷
    "textvisiblespace" means Letter 0x2423 ∷
    "guillemotleft" means Letter 0xAB ∷
    "guillemotright" means Letter 0xBB ∷
    "guilsinglleft" means Letter 0x2039 ∷
    "guilsinglright" means Letter 0x203A ∷
    "aa" means Letter 0xE5 ∷
    "AA" means Letter 0xC5 ∷
    "ae" means Letter 0xE6 ∷
    "AE" means Letter 0xC6 ∷
    "dh" means Letter 0xF0 ∷
    "DH" means Letter 0xD0 ∷
    "dj" means Letter 0x111 ∷
    "DJ" means Letter 0x110 ∷
    "ng" means Letter 0x14B ∷
    "NG" means Letter 0x14A ∷
    "l" means Letter 0x142 ∷
    "L" means Letter 0x141 ∷
    "i" means Letter 0x131 ∷
    "oe" means Letter 0x153 ∷
    "OE" means Letter 0x152 ∷
    "o" means Slash ∷
    "O" means Letter 0xD8 ∷
    "ss" means Letter 0xDF ∷
    "SS" means Letter 0x1E9E ∷
    "th" means Letter 0xFE ∷
    "TH" means Letter 0xDE ∷
    "P" means Letter 0xB6 ∷
    "textparagraph" means Letter 0xB6 ∷
    "S" means Letter 0xA7 ∷
    "copyright" means Copyright ∷
    "ddag" means Letter 0x2021 ∷
    "dots" means Letter 0x2026 ∷
    "textellipsis" means Letter 0x2026 ∷
    "pounds" means Letter 0xA3 ∷
    "`" means Accent 0x300 ∷
    "´" means Accent 0x301 ∷
    "'" means Accent 0x301 ∷
    "^" means Accent 0x302 ∷
    "~" means Accent 0x303 ∷
    "=" means Accent 0x304 ∷
    "u" means Accent 0x306 ∷
    "." means Accent 0x307 ∷
    "\"" means Accent 0x308 ∷
    "r" means Accent 0x30A ∷
    "H" means Accent 0x30B ∷
    "v" means Accent 0x30C ∷
    "d" means Accent 0x323 ∷
    "c" means Accent 0x327 ∷
    "k" means Accent 0x328 ∷
    "b" means Accent 0x332 ∷
    "-" means Hyphenation ∷
    []

-- what the first row with this name says; a name that no row has is `Unknown`
unfoldable pub meaning_in : List CommandRow → List ℕ → Meaning
meaning_in [] name = Unknown
meaning_in (r ∷ rows) name = cond (same_bytes (utf8 r.name) name) r.means (meaning_in rows name)

abbrev pub meaning_of : List ℕ → Meaning
meaning_of name = meaning_in commands name
