-- What chunks are written as [chunk.rs]. A text is its octets.
--     last_at, last_code, ends_white                   the last character of a text
--     format_one, format_from, format_verbatim         [chunk.rs:format_verbatim]
--     is_escapable, escaped                            [resolve.rs:is_escapable] and [chunk.rs:Chunk::to_biblatex_string]
--     biblatex_one, biblatex_from, to_biblatex_string  [chunk.rs:to_biblatex_string]
-- Assumes nothing.
use Rattle.std.specs.Prelude.{ℕ, suc, Bool, true, false, cond, not, ◌&&◌, ◌||◌, List, [], ◌∷◌, ◌++◌, drop, eqb}
use Rattle.text.specs.Range.{within}
use Rattle.text.specs.Utf8.{tail}
use Rattle.text.specs.Class.{is_whitespace, mark}
use Rattle.text.specs.Scan.{code}
use Rattle.chunk.specs.declared.form.Kind.{Kind}
use Rattle.chunk.specs.declared.form.Kind.TheVariants.{Normal, Verbatim, Math}
use Rattle.chunk.specs.Chunk.{Chunk}

-- ---- the last character of a text

-- the place of the last octet that is no tail, where the last character begins. The first octet is at i, and `best` is the last such place
-- so far
unfoldable pub last_from : ℕ → ℕ → List ℕ → ℕ
last_from best i [] = best
last_from best i (b ∷ t) = last_from (cond (within tail b) best i) (suc i) t

abbrev pub last_at : List ℕ → ℕ
last_at t = last_from 0 0 t

abbrev pub last_code : List ℕ → ℕ
last_code t = code (drop (last_at t) t)

abbrev pub ends_white : List ℕ → Bool
ends_white [] = false
ends_white (b ∷ t) = is_whitespace (last_code (b ∷ t))

-- ---- [chunk.rs:format_verbatim]

-- a text, and the Rust's `prev_was_whitespace` after it
pub record Written : Type 0 where
  pub text : List ℕ
  pub white : Bool

abbrev pub written : List ℕ → Bool → Written
written t w = record { text = t; white = w }

-- the text t, put in front of what w has
abbrev pub before : List ℕ → Written → Written
before t w = written (t ++ w.text) w.white

-- a newline or a carriage return
abbrev pub is_line_end : ℕ → Bool
is_line_end b = eqb b 0x0A || eqb b 0x0D

-- `prev_was_whitespace` after the octets u, where it was w before them
abbrev pub white : Bool → List ℕ → Bool
white w [] = w
white w (b ∷ u) = ends_white (b ∷ u)

-- a Normal text: a line end becomes a blank, or nothing if white space came before it. The octets u stand between the last line end and
-- here, and w is `prev_was_whitespace` before them
unfoldable pub lines : Bool → List ℕ → List ℕ → Written
lines w u [] = written [] (white w u)
lines w u (b ∷ t) =
    cond (is_line_end b) (cond (white w u) (lines true [] t) (before (0x20 ∷ []) (lines true [] t)))
    (before (b ∷ []) (lines w (u ++ b ∷ []) t))

-- what a chunk is written as, where `prev_was_whitespace` is w before it
abbrev pub format_one : Bool → Kind → List ℕ → Written
format_one w Normal t = lines w [] t
format_one w Verbatim t = written t (ends_white t)
format_one w Math t = written (0x24 ∷ t ++ 0x24 ∷ []) w

unfoldable pub format_from : Bool → List Chunk → List ℕ
format_from w [] = []
format_from w (c ∷ cs) = (format_one w c.kind c.text).text ++ format_from (format_one w c.kind c.text).white cs

-- `prev_was_whitespace` after the chunks
unfoldable pub white_from : Bool → List Chunk → Bool
white_from w [] = w
white_from w (c ∷ cs) = white_from (format_one w c.kind c.text).white cs

abbrev pub format_verbatim : List Chunk → List ℕ
format_verbatim cs = format_from false cs

-- ---- [chunk.rs:to_biblatex_string]

-- { } \
abbrev pub always_marks : List ℕ
always_marks = 0x7B ∷ 0x7D ∷ 0x5C ∷ []

-- ~ ^ # & % $ _
abbrev pub plain_marks : List ℕ
plain_marks = 0x7E ∷ 0x5E ∷ 0x23 ∷ 0x26 ∷ 0x25 ∷ 0x24 ∷ 0x5F ∷ []

-- [resolve.rs:is_escapable] the first list always, the second unless the field is verbatim, and a colon only in reading. All of them are
-- ASCII, so an octet decides
unfoldable pub is_escapable : ℕ → Bool → Bool → Bool
is_escapable c verb read = mark always_marks c || (mark plain_marks c && not verb) || (eqb c 0x3A && read)

unfoldable pub escaped : Bool → List ℕ → List ℕ
escaped verb [] = []
escaped verb (b ∷ t) = cond (is_escapable b verb false) (0x5C ∷ b ∷ escaped verb t) (b ∷ escaped verb t)

-- what stands before a chunk: an extra brace is opened for Verbatim and closed for Normal, and Math has its dollar
abbrev pub opening : Bool → Kind → List ℕ
opening false Normal = []
opening true Normal = 0x7D ∷ []
opening false Verbatim = 0x7B ∷ []
opening true Verbatim = []
opening extra Math = 0x24 ∷ []

-- whether the extra brace is open after a chunk
abbrev pub extra_after : Bool → Kind → Bool
extra_after extra Normal = false
extra_after extra Verbatim = true
extra_after extra Math = extra

-- the chunk's text, and behind Math its second dollar
abbrev pub body_of : Bool → Kind → List ℕ → List ℕ
body_of verb Normal t = escaped verb t
body_of verb Verbatim t = escaped verb t
body_of verb Math t = t ++ 0x24 ∷ []

abbrev pub biblatex_one : Bool → Bool → Kind → List ℕ → List ℕ
biblatex_one verb extra k t = opening extra k ++ body_of verb k t

-- the closing brace, and one more where the extra brace is open
abbrev pub closing : Bool → List ℕ
closing false = 0x7D ∷ []
closing true = 0x7D ∷ 0x7D ∷ []

unfoldable pub biblatex_from : Bool → Bool → List Chunk → List ℕ
biblatex_from verb extra [] = closing extra
biblatex_from verb extra (c ∷ cs) = biblatex_one verb extra c.kind c.text ++ biblatex_from verb (extra_after extra c.kind) cs

abbrev pub to_biblatex_string : Bool → List Chunk → List ℕ
to_biblatex_string verb cs = 0x7B ∷ biblatex_from verb false cs
