-- The grammar, in the order of src/raw.rs [raw.rs].
-- Assumes nothing.
use Rattle.std.specs.Prelude.{ℕ, zero, suc, ◌+◌, Bool, true, false, cond, ◌&&◌, ◌||◌, List, [], ◌∷◌, eqb, ltb, leb, Some, None}
use Rattle.text.specs.Class.{is_whitespace, is_key, is_id_start, is_id_continue, holds_of}
use Rattle.text.specs.Scan.{see, fails}
use Rattle.text.specs.declared.class.Test.TheVariants as test
use Rattle.row.specs.declared.form.Kind.{Kind}
use Rattle.row.specs.declared.form.Kind.TheVariants as kind
use Rattle.raw.specs.declared.entry.Form.{Form}
use Rattle.raw.specs.declared.entry.Form.TheVariants.{Strings, Preambles, Comments, Other}
use Rattle.row.specs.Row.{plain}
use Rattle.row.specs.declared.fault.Reason.TheVariants.{UnexpectedEof, ExpectedIdentifier, ExpectedOpeningBrace, ExpectedClosingBrace, ExpectedComma}
use Rattle.row.specs.declared.fault.Reason.TheVariants.{ExpectedQuotationMark, ExpectedEquals, UnexpectedDecimalPoint}
use Rattle.row.specs.declared.fault.Reason.{Reason}
use Rattle.raw.specs.Reader.{Reader, and_then, stop, turn, refuse, ◌then◌, over, over_from, put, when, sees, many, scan}

-- the character c
abbrev pub is : ℕ → ℕ → Bool
is c = λ d. eqb d c

abbrev pub any : ℕ → Bool
any c = true

-- the character of class t, or the refusal
abbrev pub need : (ℕ → Bool) → Reason → Reader
need t reason = when t stop (refuse reason)

unfoldable pub white : Reader
white = scan is_whitespace

-- ---- tokens

unfoldable pub comma : Reader
comma = need (holds_of test.Comma) ExpectedComma

-- the "@" of an entry: it is looked for before an entry is read, so this never refuses
unfoldable pub at_sign : Reader
at_sign = need (is 0x40) ExpectedIdentifier

-- "`brace` takes a double quote for either delimiter" [01:Strict reading]
unfoldable pub opening : Reader
opening = need (λ c. eqb c 0x7B || eqb c 0x22) ExpectedOpeningBrace

unfoldable pub closing : Reader
closing = need (λ c. eqb c 0x7D || eqb c 0x22) ExpectedClosingBrace

unfoldable pub quote : Reader
quote = need (holds_of test.QuotationMark) ExpectedQuotationMark

unfoldable pub equals : Reader
equals = need (holds_of test.Equals) ExpectedEquals

-- ---- values

-- past a backslash and the character after it, if there is one
abbrev pub escape : ℕ → Reader
escape a = when any (turn a) (turn a)

-- to the quote that closes a string, which is not eaten
unfoldable pub quoted_turn : ℕ → Reader
quoted_turn a =
    sees (is 0x22) stop
    (when (is 0x5C) (escape a)
    (when any (turn a)
    (refuse UnexpectedEof)))

unfoldable pub quoted : Reader
quoted = many quoted_turn 0

-- a string with its quotes; and one whose inside is a literal
unfoldable pub string : Reader
string = quote then quoted then quote

unfoldable pub string_literal : Reader
string_literal = quote then over (plain kind.Literal) quoted then quote

-- digits and one point; a is 0 as long as no point was read
unfoldable pub number_turn : ℕ → Reader
number_turn zero =
    when (holds_of test.Digit) (turn 0)
    (when (is 0x2E) (turn 1)
    (sees any stop
    (refuse UnexpectedEof)))
number_turn (suc a) =
    when (holds_of test.Digit) (turn 1)
    (sees (is 0x2E) (refuse UnexpectedDecimalPoint)
    (sees any stop
    (refuse UnexpectedEof)))

unfoldable pub number : Reader
number = many number_turn 0

-- "a braced value ends before the first closing brace, skipping backslash pairs, that outnumbers the opening ones"
-- [01:Strict reading]: d braces are open inside
unfoldable pub braced_turn : ℕ → Reader
braced_turn zero =
    sees (is 0x7D) stop
    (when (is 0x7B) (turn 1)
    (when (is 0x5C) (escape 0)
    (when any (turn 0)
    (refuse UnexpectedEof))))
braced_turn (suc d) =
    when (is 0x7D) (turn d)
    (when (is 0x7B) (turn (suc (suc d)))
    (when (is 0x5C) (escape (suc d))
    (when any (turn (suc d))
    (refuse UnexpectedEof))))

unfoldable pub in_braces : Reader
in_braces = many braced_turn 0

unfoldable pub braced : Reader
braced = opening then over (plain kind.Literal) in_braces then closing

unfoldable pub ident : Reader
ident = when is_id_start (scan is_id_continue) (refuse ExpectedIdentifier)

unfoldable pub single_field : Reader
single_field = sees (is 0x7B) braced (sees (is 0x22) string_literal (refuse UnexpectedEof))

unfoldable pub abbr_element : Reader
abbr_element =
    sees (holds_of test.Digit) (over (plain kind.Literal) number)
    (sees is_id_start (over (plain kind.Name) ident)
    single_field)

unfoldable pub abbr_turn : ℕ → Reader
abbr_turn a = abbr_element then white then when (holds_of test.Hash) (white then turn 0) stop

-- "A value's span takes in the white space after it" [01:Strict reading]
unfoldable pub abbr_field : Reader
abbr_field = over (plain kind.Value) (many abbr_turn 0)

-- ---- fields: k is the kind of their names

-- to the newline, which is not eaten; or nothing
unfoldable pub comment : Reader
comment = when (holds_of test.Percent) (scan (fails test.Newline)) stop

unfoldable pub field : Kind → Reader
field k = over (plain k) ident then white then equals then white then abbr_field then white then comment

-- after a field: another, or the brace that closes, which is not eaten
unfoldable pub field_end : Reader
field_end =
    white then
    sees (is 0x2C) (comma then white then comment then turn 0)
    (sees (is 0x7D) stop
    (refuse ExpectedComma))

unfoldable pub fields_turn : Kind → ℕ → Reader
fields_turn k a =
    sees any (white then sees (is 0x7D) stop (field k then field_end))
    (refuse UnexpectedEof)

unfoldable pub fields : Kind → Reader
fields k = many (fields_turn k) 0

unfoldable pub key : Reader
key = scan is_key

-- ---- entries

-- the small letter of an ASCII capital; any other character as it is
abbrev pub lower : ℕ → ℕ
lower c = cond (leb 0x41 c && leb c 0x5A) (c + 0x20) c

-- the characters from a to e spell the word, in any ASCII case
unfoldable pub spells : List ℕ → List ℕ → ℕ → ℕ → Bool
spells [] s a e = eqb a e
spells (w ∷ word) s a e =
    cond (ltb a e) (elim (see s a) [ None ↦ false | Some (c, n) ↦ eqb (lower c) w && spells word s n e ]) false

-- what an entry of the type from a to e is: string, preamble, comment, or another. "Its name and those of `string` and `preamble`
-- ignore ASCII case" [01:Strict reading]
unfoldable pub form_of : List ℕ → ℕ → ℕ → Form
form_of s a e =
    cond (spells (0x73 ∷ 0x74 ∷ 0x72 ∷ 0x69 ∷ 0x6E ∷ 0x67 ∷ []) s a e) Strings
    (cond (spells (0x70 ∷ 0x72 ∷ 0x65 ∷ 0x61 ∷ 0x6D ∷ 0x62 ∷ 0x6C ∷ 0x65 ∷ []) s a e) Preambles
    (cond (spells (0x63 ∷ 0x6F ∷ 0x6D ∷ 0x6D ∷ 0x65 ∷ 0x6E ∷ 0x74 ∷ []) s a e) Comments Other))

unfoldable pub strings : Reader
strings = fields kind.DefinitionName

unfoldable pub preamble : Reader
preamble = over (plain kind.Preamble) string

-- "`@comment` ends at its first "}", uncounted" [01:Strict reading]
unfoldable pub commented : Reader
commented = scan (fails test.ClosingBrace)

unfoldable pub body : Reader
body = over (plain kind.Key) key then white then comma then white then comment then white then fields kind.FieldName

-- from an entry's type to what stands between the delimiters
unfoldable pub lead : Reader
lead = white then opening then white

-- an entry that begins at p, after its type from a to e, to its closing delimiter
unfoldable pub rest : Form → ℕ → ℕ → ℕ → Reader
rest Strings p a e = lead then strings
rest Preambles p a e = lead then preamble
rest Comments p a e = lead then commented
rest Other p a e = over_from (plain kind.Entry) p (put (plain kind.EntryType) a e then lead then body)

-- "An entry's span ends before its closing delimiter" [01:Strict reading]
unfoldable pub entry : Reader
entry s p =
    and_then (at_sign s p) (λ a.
    and_then (ident s a) (λ e.
    (rest (form_of s a e) p a e then white then closing) s e))

-- ---- the file

unfoldable pub file_turn : ℕ → Reader
file_turn a =
    white then
    sees (is 0x40) (entry then turn 0)
    (sees (holds_of test.Percent) (comment then turn 0)
    (when any (turn 0) stop))

unfoldable pub file : Reader
file = many file_turn 0
