-- chunk.rs goes through a text character by character, and the definitions of specs/Format.antt octet by octet. On a text that is UTF-8 both
-- give the same result. The proof is `characters` of proofs/Characters.antt.
--     Scalars               characters that are scalar values; their octets are `utf8_of` of text/specs/Utf8.antt
--     char_lines            [chunk.rs:format_verbatim] of a Normal text
--     char_ends_white       [chunk.rs:format_verbatim] of a Verbatim text: whether its last character is white space
--     char_escaped          [chunk.rs:Chunk::to_biblatex_string]
-- Assumes nothing.
use Rattle.std.specs.Prelude.{ℕ, ◌≡◌, Bool, true, false, cond, List, [], ◌∷◌, ◌++◌, length}
use Rattle.text.specs.Utf8.{is_scalar, octets, utf8_of, Octets}
use Rattle.text.specs.Class.{is_whitespace}
use Rattle.chunk.specs.Format.{last_at, last_code, Written, written, before, is_line_end, lines, ends_white, is_escapable, escaped}
use Rattle.chunk.specs.Sentence.{chars}

-- all of these characters are scalar values
pub data Scalars : List ℕ → Type 0 where
  none : Scalars []
  next : {c : ℕ} {cs : List ℕ} → is_scalar c ≡ true → Scalars cs → Scalars (c ∷ cs)

-- what is written of a Normal text's characters, where `prev_was_whitespace` is w before them
unfoldable pub char_lines : Bool → List ℕ → Written
char_lines w [] = written [] w
char_lines w (c ∷ cs) =
    cond (is_line_end c) (cond w (char_lines w cs) (before (0x20 ∷ []) (char_lines (is_whitespace 0x20) cs)))
    (before (c ∷ []) (char_lines (is_whitespace c) cs))

unfoldable pub char_ends_white : List ℕ → Bool
char_ends_white [] = false
char_ends_white (c ∷ []) = is_whitespace c
char_ends_white (c ∷ d ∷ cs) = char_ends_white (d ∷ cs)

unfoldable pub char_escaped : Bool → List ℕ → List ℕ
char_escaped verb [] = []
char_escaped verb (c ∷ cs) = cond (is_escapable c verb false) (0x5C ∷ c ∷ char_escaped verb cs) (c ∷ char_escaped verb cs)

pub record Characters : Type 0 where
  -- a text that is UTF-8 is the octets of some characters
  pub has : (t : List ℕ) → Octets t → (cs : List ℕ) × Scalars cs × (utf8_of cs ≡ t)
  -- and these are the ones that `chars` of specs/Sentence.antt gives, through which [chunk.rs:format_sentence] goes
  pub decoded : (cs : List ℕ) → Scalars cs → chars (utf8_of cs) ≡ cs
  -- over octets the definitions give what chunk.rs gives over characters: the lines, whether white space comes last, the escapes
  pub lined : (w : Bool) (cs : List ℕ) → Scalars cs → lines w [] (utf8_of cs) ≡ written (utf8_of (char_lines w cs).text) (char_lines w cs).white
  pub ended : (cs : List ℕ) → Scalars cs → ends_white (utf8_of cs) ≡ char_ends_white cs
  pub escapes : (verb : Bool) (cs : List ℕ) → Scalars cs → escaped verb (utf8_of cs) ≡ utf8_of (char_escaped verb cs)
  -- the last character is the one whose octets come last, whatever octets stand before them
  pub last : (u : List ℕ) (c : ℕ) → is_scalar c ≡ true → (last_at (u ++ octets c) ≡ length u) × (last_code (u ++ octets c) ≡ c)
