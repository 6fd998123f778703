-- Cases of resolving besides those of the edge table. Each is a value of one literal at place 0.
--     table, LiteralCases   the cases, and that they compute. The proof is `literal-cases` of proofs/LiteralCases.antt
--     Deep                  arguments at the limit of 64
-- Assumes nothing.
use Rattle.std.specs.Prelude.{ℕ, zero, suc, ◌≡◌, Bool, true, false, List, [], ◌∷◌, map}
use Prim.Native.String.{String}
use Rattle.row.specs.Fault.{number_of}
use Rattle.chunk.specs.declared.form.Kind.{Kind}
use Rattle.chunk.specs.declared.form.Kind.TheVariants.{Normal, Verbatim, Math}
use Rattle.chunk.specs.Chunk.{Chunk, chunk}
use Rattle.text.specs.Strings.{utf8}
use Rattle.turn.specs.Content.{flatten}
use Rattle.literal.specs.Literal.{Resolved, resolve_literal}
use Rattle.literal.specs.Literal.{chunks as Chunks, refused as Refused}

-- chunks, or 01's number and a place
pub data Expected : Type 0 where
  chunks : List Chunk → Expected
  refused : ℕ → ℕ → ℕ → Expected

-- a value of one literal is its chunks, flattened
abbrev pub outcome_of : Resolved → Expected
outcome_of (Chunks cs) = chunks (flatten cs)
outcome_of (Refused f) = refused (number_of f.reason) f.start f.end

pub record Case : Type 0 where
  pub verb : Bool
  pub text : String
  pub outcome : Expected

infix 80 literal◌gives◌
abbrev pub literal◌gives◌ : String → Expected → Case
literal◌gives◌ t o = record { verb = false; text = t; outcome = o }

infix 80 verbatim◌gives◌
abbrev pub verbatim◌gives◌ : String → Expected → Case
verbatim◌gives◌ t o = record { verb = true; text = t; outcome = o }

infix 80 ◌of◌from◌to◌
abbrev pub ◌of◌from◌to◌ : Kind → String → ℕ → ℕ → Chunk
◌of◌from◌to◌ k t a e = chunk k (utf8 t) a e

unfoldable pub table : List Case
table =
    literal "" gives chunks (Normal of "" from 0 to 0 ∷ []) ∷
    literal "Stra\\ss." gives chunks (Normal of "Stra\\ss. " from 0 to 8 ∷ []) ∷
    literal "{\\'}" gives chunks (Normal of "" from 0 to 0 ∷ Verbatim of "}́" from 1 to 4 ∷ []) ∷
    literal "\\a{\\}}" gives refused 3 4 4 ∷
    literal "\\x{\\'\\}}" gives refused 11 7 8 ∷
    literal "\\^ {e}" gives chunks (Normal of "̂" from 0 to 3 ∷ Verbatim of "e" from 4 to 5 ∷ []) ∷
    literal "\\d{â}" gives chunks (Normal of "ậ" from 0 to 6 ∷ []) ∷
    literal "\\^{ạ}" gives chunks (Normal of "ậ" from 0 to 7 ∷ []) ∷
    literal "\\'" gives chunks (Normal of "́" from 0 to 2 ∷ []) ∷
    literal "\\~" gives chunks (Normal of "~" from 0 to 2 ∷ []) ∷
    literal "\\" gives refused 3 1 1 ∷
    literal "a--b---c-d" gives chunks (Normal of "a–b—c-d" from 0 to 10 ∷ []) ∷
    literal "\\\"{O}zg\\\"un" gives chunks (Normal of "Özgün" from 0 to 11 ∷ []) ∷
    literal "\\c c" gives chunks (Normal of "ç" from 0 to 4 ∷ []) ∷
    literal "\\cc" gives chunks (Normal of "\\cc " from 0 to 3 ∷ []) ∷
    literal "\\emph{a {B} $x$ c}" gives chunks (Normal of "\\emph{a B $x$ c}" from 0 to 18 ∷ []) ∷
    literal "x $a b$ y {NASA} z" gives chunks (
    Normal of "x " from 0 to 2 ∷
    Math of "a b" from 3 to 6 ∷
    Normal of " y " from 7 to 10 ∷
    Verbatim of "NASA" from 11 to 15 ∷
    Normal of " z" from 16 to 18 ∷ []) ∷
    literal "a}b" gives refused 11 1 2 ∷
    literal "\\a{\\b{\\c{x" gives refused 3 10 10 ∷
    literal "\\copyright{A} 2020" gives chunks (Normal of "©A 2020" from 0 to 18 ∷ []) ∷
    literal "\\textquotedblleft Hi\\textquotedblright" gives chunks (Normal of "“Hi”" from 0 to 38 ∷ []) ∷
    literal "\\-{a}b" gives chunks (Normal of "b" from 0 to 6 ∷ []) ∷
    literal "\\v{ȷ}" gives chunks (Normal of "ǰ" from 0 to 6 ∷ []) ∷
    literal "{a}{b}" gives chunks (
    Normal of "" from 0 to 0 ∷ Verbatim of "a" from 1 to 2 ∷ Normal of "" from 3 to 3 ∷ Verbatim of "b" from 4 to 5 ∷ []) ∷
    literal "{a{b}c}d" gives chunks (Normal of "" from 0 to 0 ∷ Verbatim of "abc" from 1 to 6 ∷ Normal of "d" from 7 to 8 ∷ []) ∷
    literal "\\%\\_\\&\\{\\}\\:" gives chunks (Normal of "%_&{}:" from 0 to 12 ∷ []) ∷
    literal "\\'{$a\n b$}" gives chunks (Normal of "$a\n b$́" from 0 to 10 ∷ []) ∷
    literal "\\a{{\\\n}\\\n}" gives chunks (Normal of "\\a{\\\n \\  }" from 0 to 10 ∷ []) ∷
    literal "\\LaTeX{}" gives chunks (Normal of "LaTeX" from 0 to 8 ∷ []) ∷
    literal "10\\,\\%" gives chunks (Normal of "10\\, %" from 0 to 6 ∷ []) ∷
    literal "  a  b " gives chunks (Normal of " a b " from 0 to 7 ∷ []) ∷
    verbatim "\\a\\%\\:\\{--$x$" gives chunks (Normal of "\\a\\%:{--$x$" from 0 to 13 ∷ []) ∷
    verbatim "\\emph{x}" gives chunks (Normal of "\\emph" from 0 to 5 ∷ Verbatim of "x" from 6 to 7 ∷ []) ∷
    []

abbrev pub LiteralCases : Type 0
LiteralCases = map (λ c. outcome_of (resolve_literal c.verb (utf8 c.text) 0)) table ≡ map (λ c. c.outcome) table

-- ---- arguments at the limit: n times \P{ and then n closing braces. The command P writes U+00B6 and drops its argument

unfoldable pub opened : ℕ → List ℕ → List ℕ
opened zero t = t
opened (suc n) t = 0x5C ∷ 0x50 ∷ 0x7B ∷ opened n t

unfoldable pub closers : ℕ → List ℕ
closers zero = []
closers (suc n) = 0x7D ∷ closers n

abbrev pub nested : ℕ → List ℕ
nested n = opened n (closers n)

-- "the 65th argument brace open at once" is refused with 14 at its byte, and "65 arguments left open give 3"
pub record Deep : Type 0 where
  pub sixty-four : outcome_of (resolve_literal false (nested 64) 0) ≡ chunks (Normal of "¶" from 0 to 256 ∷ [])
  pub sixty-five : outcome_of (resolve_literal false (nested 65) 0) ≡ refused 14 194 195
  pub left_open : outcome_of (resolve_literal false (opened 65 []) 0) ≡ refused 3 195 195
