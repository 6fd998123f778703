-- The edge table [01:Edge table]: "These sixteen are proved as one table under one statement", in 01's order, with the places of its third,
-- fourth and fifth line as [02:2] changes them.
--     Asked, answer          what a line asks, and what the definitions answer
--     table, EdgeTable       the lines; the proof of `EdgeTable` is `edge-table` of proofs/EdgeTable.antt
-- Assumes nothing.
use Rattle.std.specs.Prelude.{ℕ, ◌≡◌, Bool, true, false, List, [], ◌∷◌, map}
use Prim.Native.String.{String}
use Rattle.text.specs.Strings.{utf8}
use Rattle.row.specs.declared.fault.Fault.{Fault}
use Rattle.row.specs.Fault.{number_of}
use Rattle.row.specs.Row.{Row}
use Rattle.row.specs.Numbers.{rows_of}
use Rattle.raw.specs.Reader.{Out, ok, again, bad}
use Rattle.raw.specs.Read.{strict}
use Rattle.chunk.specs.declared.form.Kind.{Kind}
use Rattle.chunk.specs.declared.form.Kind.TheVariants.{Normal, Verbatim}
use Rattle.chunk.specs.Chunk.{Chunk, chunk}
use Rattle.turn.specs.Content.{flatten}
use Rattle.literal.specs.Literal.{Resolved, resolve_literal}
use Rattle.literal.specs.Literal as literal
use Rattle.salvage.specs.Salvage.{salvage_of}
use Rattle.pack.specs.Seven.{packing}
use Rattle.pack.specs.Pack.{is_packable}

-- ---- what a line asks, and what comes out

-- a file, to be read strictly; a literal at place 0, of a verbatim field or another; a file, to be salvaged; the numbers of rows, to be packed
pub data Asked : Type 0 where
  file : String → Asked
  resolve : String → Asked
  verbatim : String → Asked
  salvage : String → Asked
  packed : List ℕ → Asked

pub data Expected : Type 0 where
  rows : List Row → Expected
  chunks : List Chunk → Expected
  bytes : List ℕ → Expected
  refused : ℕ → ℕ → ℕ → Expected

abbrev pub of_fault : Fault → Expected
of_fault f = refused (number_of f.reason) f.start f.end

abbrev pub of_reading : Out → Expected
of_reading (ok q rs) = rows rs
of_reading (again q rs a) = rows rs
of_reading (bad f) = of_fault f

-- a value of one literal is its chunks, flattened
abbrev pub of_literal : Resolved → Expected
of_literal (literal.chunks cs) = chunks (flatten cs)
of_literal (literal.refused f) = of_fault f

abbrev pub of_rows : Bool → List ℕ → Expected
of_rows true l = bytes (packing (rows_of l))
of_rows false l = refused 17 0 0

abbrev pub answer : Asked → Expected
answer (file s) = of_reading (strict (utf8 s))
answer (resolve s) = of_literal (resolve_literal false (utf8 s) 0)
answer (verbatim s) = of_literal (resolve_literal true (utf8 s) 0)
answer (salvage s) = rows (salvage_of (utf8 s))
answer (packed l) = of_rows (is_packable l) l

-- ---- the lines

pub record Line : Type 0 where
  pub asked : Asked
  pub outcome : Expected

infix 80 ◌gives◌
abbrev pub ◌gives◌ : Asked → Expected → Line
◌gives◌ a o = record { asked = a; outcome = o }

-- a row of kind k from a to e; one with a detail; a chunk
infix 90 ◌at◌to◌
abbrev pub ◌at◌to◌ : ℕ → ℕ → ℕ → Row
◌at◌to◌ k a e = record { kind = k; detail = 0; start = a; end = e }

infix 90 ◌detail◌at◌to◌
abbrev pub ◌detail◌at◌to◌ : ℕ → ℕ → ℕ → ℕ → Row
◌detail◌at◌to◌ k d a e = record { kind = k; detail = d; start = a; end = e }

infix 90 ◌of◌at◌to◌
abbrev pub ◌of◌at◌to◌ : Kind → String → ℕ → ℕ → Chunk
◌of◌at◌to◌ k t a e = chunk k (utf8 t) a e

-- 01's line of `$x` asks two things
unfoldable pub table : List Line
table =
    file "" gives rows [] ∷
    file "@a{k,}" gives rows (1 at 0 to 5 ∷ 2 at 1 to 2 ∷ 3 at 3 to 4 ∷ []) ∷
    file "@a{k}" gives refused 7 4 5 ∷
    file "@a{k,t=}" gives refused 3 7 8 ∷
    file "@a{k,y=1.2.3}" gives refused 10 10 11 ∷
    file "@a{k,y=12" gives refused 3 9 9 ∷
    file "@a{k,t={x\\}y} }" gives rows (1 at 0 to 14 ∷ 2 at 1 to 2 ∷ 3 at 3 to 4 ∷ 4 at 5 to 6 ∷ 5 at 7 to 14 ∷ 6 at 8 to 12 ∷ []) ∷
    file "@preamble{\"x\"\"" gives rows (0 at 10 to 13 ∷ []) ∷
    resolve "a----b" gives chunks (Normal of "a—-b" at 0 to 6 ∷ []) ∷
    resolve "\\'{\\i}" gives chunks (Normal of "í" at 0 to 6 ∷ []) ∷
    resolve "\\o{x}" gives chunks (Normal of "x̸" at 0 to 5 ∷ []) ∷
    resolve "a\\ b" gives chunks (Normal of "a\\  b" at 0 to 4 ∷ []) ∷
    resolve "{a}" gives chunks (Normal of "" at 0 to 0 ∷ Verbatim of "a" at 1 to 2 ∷ []) ∷
    resolve "$x" gives refused 3 2 2 ∷
    verbatim "$x" gives chunks (Normal of "$x" at 0 to 2 ∷ []) ∷
    salvage "@a{\n@b{k,}" gives rows (9 at 0 to 4 ∷ 10 detail 7 at 4 to 4 ∷ 1 at 4 to 9 ∷ 2 at 5 to 6 ∷ 3 at 7 to 8 ∷ []) ∷
    packed (9 ∷ 0 ∷ 0 ∷ 4 ∷ 10 ∷ 7 ∷ 4 ∷ 4 ∷ []) gives bytes
    (0x90 ∷ 0x00 ∷ 0x00 ∷ 0x00 ∷ 0x00 ∷ 0x00 ∷ 0x04 ∷ 0xA7 ∷ 0x00 ∷ 0x00 ∷ 0x04 ∷ 0x00 ∷ 0x00 ∷ 0x00 ∷ []) ∷
    []

abbrev pub EdgeTable : Type 0
EdgeTable = map (λ l. answer l.asked) table ≡ map (λ l. l.outcome) table
