-- What chunks are written as in sentence case [chunk.rs:format_sentence].
--     chars                                                the characters of a text
--     sentence_chars                                       a Normal text, character by character
--     sentence_one, sentence_from, format_sentence         chunks
-- Assumes nothing.
use Rattle.std.specs.Prelude.{ℕ, Bool, true, false, cond, ◌&&◌, List, [], ◌∷◌, ◌++◌}
use Rattle.text.specs.Range.{within}
use Rattle.text.specs.Utf8.{tail, utf8_of}
use Rattle.text.specs.Class.{is_whitespace}
use Rattle.text.specs.Scan.{code}
use Rattle.casing.specs.Casing.{cased}
use Rattle.chunk.specs.declared.form.Kind.{Kind}
use Rattle.chunk.specs.declared.form.Kind.TheVariants.{Normal, Verbatim, Math}
use Rattle.chunk.specs.Chunk.{Chunk}
use Rattle.chunk.specs.Format.{Written, written, before, is_line_end, format_one}

-- the characters of a text: one for each octet that is no tail, since one that is belongs to the character before it
unfoldable pub chars : List ℕ → List ℕ
chars [] = []
chars (b ∷ t) = cond (within tail b) (chars t) (code (b ∷ t) ∷ chars t)

-- a line end is a blank
abbrev pub unbroken : ℕ → ℕ
unbroken c = cond (is_line_end c) 0x20 c

-- what is written of a Normal text's characters, where the Rust's `first` and `prev_was_whitespace` are f and w before them: a line end behind
-- white space is left out, and of anything else the first is raised and the others are lowered
unfoldable pub sentence_chars : Bool → Bool → List ℕ → Written
sentence_chars f w [] = written [] w
sentence_chars f w (c ∷ cs) =
    cond (is_line_end c && w) (sentence_chars f w cs)
    (before (utf8_of (cased f (unbroken c))) (sentence_chars false (is_whitespace (unbroken c)) cs))

-- what a chunk is written as: Verbatim and Math as `format_verbatim` writes them
abbrev pub sentence_one : Bool → Bool → Kind → List ℕ → Written
sentence_one f w Normal t = sentence_chars f w (chars t)
sentence_one f w Verbatim t = format_one w Verbatim t
sentence_one f w Math t = format_one w Math t

-- `first` is over after the first chunk, whatever it is
unfoldable pub sentence_from : Bool → Bool → List Chunk → List ℕ
sentence_from f w [] = []
sentence_from f w (c ∷ cs) = (sentence_one f w c.kind c.text).text ++ sentence_from false (sentence_one f w c.kind c.text).white cs

abbrev pub format_sentence : List Chunk → List ℕ
format_sentence cs = sentence_from true false cs
