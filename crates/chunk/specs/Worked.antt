-- Chunks and what the writers make of them: the chunks of real values, and line ends, white space and extra braces across chunks.
--     table       the cases
--     titles      cases of sentence case
--     Worked      the definitions give their texts. The proof is `worked` of proofs/Worked.antt
-- Assumes nothing.
use Prim.Native.String.{String}
use Rattle.std.specs.Prelude.{◌≡◌, true, false, List, [], ◌∷◌, map}
use Rattle.text.specs.Strings.{utf8}
use Rattle.chunk.specs.declared.form.Kind.{Kind}
use Rattle.chunk.specs.declared.form.Kind.TheVariants.{Normal, Verbatim, Math}
use Rattle.chunk.specs.Chunk.{Chunk, chunk}
use Rattle.chunk.specs.Format.{format_verbatim, to_biblatex_string}
use Rattle.chunk.specs.Sentence.{format_sentence}

-- a chunk, whose span no writer looks at
infix 80 ◌of◌
abbrev pub ◌of◌ : Kind → String → Chunk
◌of◌ k t = chunk k (utf8 t) 0 0

-- chunks; their text by `format_verbatim`; by `to_biblatex_string` of a field that is not verbatim; and of one that is
pub record Case : Type 0 where
  pub chunks : List Chunk
  pub plain : String
  pub bib : String
  pub bib_verbatim : String

infix 70 ◌writes◌and◌or◌
abbrev pub ◌writes◌and◌or◌ : List Chunk → String → String → String → Case
◌writes◌and◌or◌ cs p b v = record { chunks = cs; plain = p; bib = b; bib_verbatim = v }

unfoldable pub table : List Case
table =
    (Normal of "a—-b" ∷ []) writes "a—-b" and "{a—-b}" or "{a—-b}" ∷
    (Normal of "í" ∷ []) writes "í" and "{í}" or "{í}" ∷
    (Normal of "x̸" ∷ []) writes "x̸" and "{x̸}" or "{x̸}" ∷
    (Normal of "a\\  b" ∷ []) writes "a\\  b" and "{a\\\\  b}" or "{a\\\\  b}" ∷
    (Normal of "" ∷ Verbatim of "a" ∷ []) writes "a" and "{{a}}" or "{{a}}" ∷
    (Normal of "" ∷ []) writes "" and "{}" or "{}" ∷
    (Normal of "Stra\\ss. " ∷ []) writes "Stra\\ss. " and "{Stra\\\\ss. }" or "{Stra\\\\ss. }" ∷
    (Normal of "" ∷ Verbatim of "}́" ∷ []) writes "}́" and "{{\\}́}}" or "{{\\}́}}" ∷
    (Normal of "̂" ∷ Verbatim of "e" ∷ []) writes "̂e" and "{̂{e}}" or "{̂{e}}" ∷
    (Normal of "ậ" ∷ []) writes "ậ" and "{ậ}" or "{ậ}" ∷
    (Normal of "ậ" ∷ []) writes "ậ" and "{ậ}" or "{ậ}" ∷
    (Normal of "́" ∷ []) writes "́" and "{́}" or "{́}" ∷
    (Normal of "~" ∷ []) writes "~" and "{\\~}" or "{~}" ∷
    (Normal of "a–b—c-d" ∷ []) writes "a–b—c-d" and "{a–b—c-d}" or "{a–b—c-d}" ∷
    (Normal of "Özgün" ∷ []) writes "Özgün" and "{Özgün}" or "{Özgün}" ∷
    (Normal of "ç" ∷ []) writes "ç" and "{ç}" or "{ç}" ∷
    (Normal of "\\cc " ∷ []) writes "\\cc " and "{\\\\cc }" or "{\\\\cc }" ∷
    (Normal of "\\emph{a B $x$ c}" ∷ []) writes "\\emph{a B $x$ c}" and "{\\\\emph\\{a B \\$x\\$ c\\}}" or "{\\\\emph\\{a B $x$ c\\}}" ∷
    (Normal of "x " ∷ Math of "a b" ∷ Normal of " y " ∷ Verbatim of "NASA" ∷ Normal of " z" ∷ [])
    writes "x $a b$ y NASA z" and "{x $a b$ y {NASA} z}" or "{x $a b$ y {NASA} z}" ∷
    (Normal of "©A 2020" ∷ []) writes "©A 2020" and "{©A 2020}" or "{©A 2020}" ∷
    (Normal of "“Hi”" ∷ []) writes "“Hi”" and "{“Hi”}" or "{“Hi”}" ∷
    (Normal of "b" ∷ []) writes "b" and "{b}" or "{b}" ∷
    (Normal of "ǰ" ∷ []) writes "ǰ" and "{ǰ}" or "{ǰ}" ∷
    (Normal of "" ∷ Verbatim of "a" ∷ Normal of "" ∷ Verbatim of "b" ∷ []) writes "ab" and "{{a}{b}}" or "{{a}{b}}" ∷
    (Normal of "" ∷ Verbatim of "abc" ∷ Normal of "d" ∷ []) writes "abcd" and "{{abc}d}" or "{{abc}d}" ∷
    (Normal of "%_&{}:" ∷ []) writes "%_&{}:" and "{\\%\\_\\&\\{\\}:}" or "{%_&\\{\\}:}" ∷
    (Normal of "$a\n b$́" ∷ []) writes "$a  b$́" and "{\\$a\n b\\$́}" or "{$a\n b$́}" ∷
    (Normal of "\\a{\\\n \\  }" ∷ []) writes "\\a{\\  \\  }" and "{\\\\a\\{\\\\\n \\\\  \\}}" or "{\\\\a\\{\\\\\n \\\\  \\}}" ∷
    (Normal of "LaTeX" ∷ []) writes "LaTeX" and "{LaTeX}" or "{LaTeX}" ∷
    (Normal of "10\\, %" ∷ []) writes "10\\, %" and "{10\\\\, \\%}" or "{10\\\\, %}" ∷
    (Normal of " a b " ∷ []) writes " a b " and "{ a b }" or "{ a b }" ∷
    [] writes "" and "{}" or "{}" ∷
    (Normal of "a\n" ∷ Normal of "\r\nb" ∷ []) writes "a b" and "{a\n\r\nb}" or "{a\n\r\nb}" ∷
    (Verbatim of "a\n" ∷ Normal of "\nb" ∷ []) writes "a\nb" and "{{a\n}\nb}" or "{{a\n}\nb}" ∷
    (Normal of "a " ∷ Verbatim of "" ∷ Normal of "\nb" ∷ []) writes "a  b" and "{a {}\nb}" or "{a {}\nb}" ∷
    (Normal of "a " ∷ Math of "x\n" ∷ Normal of "\nb" ∷ []) writes "a $x\n$b" and "{a $x\n$\nb}" or "{a $x\n$\nb}" ∷
    (Normal of "a\u{3000}\nb" ∷ []) writes "a\u{3000}b" and "{a\u{3000}\nb}" or "{a\u{3000}\nb}" ∷
    (Verbatim of "a_" ∷ Math of "x_1" ∷ Verbatim of "~" ∷ []) writes "a_$x_1$~" and "{{a\\_$x_1$\\~}}" or "{{a_$x_1$~}}" ∷
    []

-- chunks, and their text by `format_sentence`
pub record Title : Type 0 where
  pub chunks : List Chunk
  pub sentence : String

infix 70 ◌says◌
abbrev pub ◌says◌ : List Chunk → String → Title
◌says◌ cs t = record { chunks = cs; sentence = t }

unfoldable pub titles : List Title
titles =
    (Normal of "ON THE " ∷ Verbatim of "NASA" ∷ Normal of " WAY TO " ∷ Math of "X^2" ∷ []) says "On the NASA way to $X^2$" ∷
    -- the first chunk uses `first` up, whatever it is, and so does a line end at the beginning
    (Normal of "" ∷ Normal of "ABC" ∷ []) says "abc" ∷
    (Verbatim of "" ∷ Normal of "ABC" ∷ []) says "abc" ∷
    (Math of "x" ∷ Normal of "ABC" ∷ []) says "$x$abc" ∷
    (Normal of "\nABC" ∷ []) says " abc" ∷
    -- a line end behind white space vanishes, wherever that came from; Math leaves `prev_was_whitespace`, and an empty Verbatim clears it
    (Normal of "A\r\nB" ∷ []) says "A b" ∷
    (Normal of "A\u{3000}\nB" ∷ []) says "A\u{3000}b" ∷
    (Verbatim of "A " ∷ Normal of "\nB" ∷ []) says "A b" ∷
    (Normal of "A " ∷ Math of "X" ∷ Normal of "\nB" ∷ []) says "A $X$b" ∷
    (Normal of "A " ∷ Verbatim of "" ∷ Normal of "\nB" ∷ []) says "A  b" ∷
    -- more characters than one, and no conditional mappings
    (Normal of "ßA" ∷ []) says "SSa" ∷
    (Normal of "ŉA" ∷ []) says "ʼNa" ∷
    (Normal of "ΐ" ∷ []) says "Ϊ́" ∷
    (Normal of "Aİ" ∷ []) says "Ai̇" ∷
    (Normal of "ΟΣ" ∷ []) says "Οσ" ∷
    []

-- all three texts are what the definitions give
abbrev pub WorkedTexts : Type 0
WorkedTexts =
    map (λ c. format_verbatim c.chunks ∷ to_biblatex_string false c.chunks ∷ to_biblatex_string true c.chunks ∷ []) table
    ≡ map (λ c. utf8 c.plain ∷ utf8 c.bib ∷ utf8 c.bib_verbatim ∷ []) table

-- and so are the titles
abbrev pub WorkedTitles : Type 0
WorkedTitles = map (λ c. format_sentence c.chunks) titles ≡ map (λ c. utf8 c.sentence) titles

pub record Worked : Type 0 where
  pub texts : WorkedTexts
  pub sentences : WorkedTitles
