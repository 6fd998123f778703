-- Fields resolved with their names and month words [01:Resolving and writing], with the rows of a file as reading gives them.
--     table, FieldCases     the cases, and that they compute. The proof is `field-cases` of proofs/FieldCases.antt
--     Deep, Many            names at the limits of 32 and 4,096
-- Assumes nothing.
use Rattle.std.specs.Prelude.{ℕ, zero, suc, ◌≡◌, false, List, [], ◌∷◌, ◌++◌, map}
use Prim.Native.String.{String}
use Rattle.row.specs.declared.form.Kind.{Kind}
use Rattle.row.specs.declared.form.Kind.TheVariants.{Entry, EntryType, Key, FieldName, Value, Literal, Name, DefinitionName}
use Rattle.row.specs.Row.{Row, row, flat}
use Rattle.row.specs.Fault.{number_of}
use Rattle.chunk.specs.declared.form.Kind.TheVariants.{Normal, Verbatim}
use Rattle.chunk.specs.Chunk.{Chunk}
use Rattle.text.specs.Strings.{utf8}
use Rattle.cases.specs.LiteralCases.{◌of◌from◌to◌}
use Rattle.resolve.specs.Resolves as resolves
use Rattle.fields.specs.OneField.{value_at}

-- chunks and the number of names resolved, or 01's number and a place
pub data Expected : Type 0 where
  chunks : List Chunk → ℕ → Expected
  refused : ℕ → ℕ → ℕ → Expected

abbrev pub outcome_of : resolves.Value → Expected
outcome_of (resolves.resolved cs n) = chunks cs n
outcome_of (resolves.refused f) = refused (number_of f.reason) f.start f.end

-- month words and texts: the numbers, and the bytes
pub record Words : Type 0 where
  pub numbers : List ℕ
  pub bytes : String

pub record Case : Type 0 where
  pub file : String
  pub rows : List Row
  pub which : ℕ
  pub words : Words
  pub scratch : ℕ
  pub outcome : Expected

infix 90 ◌from◌to◌
abbrev pub ◌from◌to◌ : Kind → ℕ → ℕ → Row
◌from◌to◌ k a e = row k a e

-- the rows of an entry "@b{k,t=" whose value ends at n
abbrev pub entry : ℕ → List Row → List Row
entry n rs = Entry from 0 to n ∷ EntryType from 1 to 2 ∷ Key from 3 to 4 ∷ FieldName from 5 to 6 ∷ Value from 7 to n ∷ rs

abbrev pub none : Words
none = record { numbers = []; bytes = "" }

abbrev pub january : Words
january = record { numbers = 0 ∷ 3 ∷ 3 ∷ 10 ∷ []; bytes = "janJanuary" }

-- "jan" twice, with the texts "A" and "B"
abbrev pub twice : Words
twice = record { numbers = 0 ∷ 3 ∷ 3 ∷ 4 ∷ 4 ∷ 7 ∷ 7 ∷ 8 ∷ []; bytes = "janAjanB" }

-- the value of the entry, with the least scratch
infix 70 ◌with◌and◌gives◌
abbrev pub ◌with◌and◌gives◌ : String → List Row → Words → Expected → Case
◌with◌and◌gives◌ file rs ws o = record { file = file; rows = rs; which = 4; words = ws; scratch = 32768; outcome = o }

-- row i of a file with one literal, over a scratch of n bytes
infix 70 value◌scratch◌gives◌
abbrev pub value◌scratch◌gives◌ : ℕ → ℕ → Expected → Case
value◌scratch◌gives◌ i n o = record {
  file = "@b{k,t={x}}";
  rows = entry 10 (Literal from 8 to 9 ∷ []);
  which = i;
  words = none;
  scratch = n;
  outcome = o;
}

unfoldable pub table : List Case
table =
    -- a name, and a literal behind it: neighbours of one kind are one chunk, from the first's start to the last's end
    "@b{k,t=a#{y}}@string{a={x}}" with
    entry 12 (Name from 7 to 8 ∷ Literal from 10 to 11 ∷ DefinitionName from 21 to 22 ∷ Value from 23 to 26 ∷ Literal from 24 to 25 ∷ []) and none
    gives chunks (Normal of "xy" from 24 to 11 ∷ []) 1 ∷
    -- braces in a definition
    "@b{k,t=a#a}@string{a={{x}}}" with
    entry 10 (Name from 7 to 8 ∷ Name from 9 to 10 ∷ DefinitionName from 19 to 20 ∷ Value from 21 to 26 ∷ Literal from 22 to 25 ∷ []) and none
    gives chunks (Normal of "" from 22 to 22 ∷ Verbatim of "x" from 23 to 24 ∷ Normal of "" from 22 to 22 ∷ Verbatim of "x" from 23 to 24 ∷ []) 2 ∷
    -- a month word has the place of its use; a definition comes before it, and of equal month words the first counts
    "@b{k,t=jan}" with entry 10 (Name from 7 to 10 ∷ []) and january gives chunks (Normal of "January" from 7 to 10 ∷ []) 1 ∷
    "@b{k,t=jan}@string{jan={x}}" with
    entry 10 (Name from 7 to 10 ∷ DefinitionName from 19 to 22 ∷ Value from 23 to 26 ∷ Literal from 24 to 25 ∷ []) and january
    gives chunks (Normal of "x" from 24 to 25 ∷ []) 1 ∷
    "@b{k,t=jan}" with entry 10 (Name from 7 to 10 ∷ []) and twice gives chunks (Normal of "A" from 7 to 10 ∷ []) 1 ∷
    -- the last of two definitions
    "@b{k,t=a}@string{a={x}}@string{a={y}}" with
    entry 8 (Name from 7 to 8 ∷
    DefinitionName from 17 to 18 ∷ Value from 19 to 22 ∷ Literal from 20 to 21 ∷
    DefinitionName from 31 to 32 ∷ Value from 33 to 36 ∷ Literal from 34 to 35 ∷ []) and none
    gives chunks (Normal of "y" from 34 to 35 ∷ []) 1 ∷
    -- an unknown name; a name that uses itself, and two that use each other: at the use
    "@b{k,t={x}#q}" with entry 12 (Literal from 8 to 9 ∷ Name from 11 to 12 ∷ []) and january gives refused 12 11 12 ∷
    "@b{k,t=a}@string{a=a}" with
    entry 8 (Name from 7 to 8 ∷ DefinitionName from 17 to 18 ∷ Value from 19 to 20 ∷ Name from 19 to 20 ∷ []) and none
    gives refused 13 19 20 ∷
    "@b{k,t=a}@string{a=b}@string{b=a}" with
    entry 8 (Name from 7 to 8 ∷
    DefinitionName from 17 to 18 ∷ Value from 19 to 20 ∷ Name from 19 to 20 ∷
    DefinitionName from 29 to 30 ∷ Value from 31 to 32 ∷ Name from 31 to 32 ∷ []) and none
    gives refused 13 31 32 ∷
    -- a value row without an element, a span across a character, a span outside the file, a month list that is no whole count, and a month text
    -- outside its bytes
    "@b{k,t=jan}" with entry 10 [] and none gives refused 17 0 0 ∷
    "@b{k,t={é}}" with entry 11 (Literal from 8 to 9 ∷ []) and none gives refused 17 0 0 ∷
    "@b{k,t={x}}" with entry 12 (Literal from 8 to 9 ∷ []) and none gives refused 17 0 0 ∷
    "@b{k,t=jan}" with entry 10 (Name from 7 to 10 ∷ []) and record { numbers = 0 ∷ 3 ∷ 3 ∷ []; bytes = "janJanuary" } gives refused 17 0 0 ∷
    "@b{k,t=jan}" with entry 10 (Name from 7 to 10 ∷ []) and record { numbers = 0 ∷ 3 ∷ 3 ∷ 11 ∷ []; bytes = "janJanuary" } gives refused 17 0 0 ∷
    -- a chosen row that is a value, one that is no value, one that is not there, and a scratch that is a byte too short
    value 4 scratch 32768 gives chunks (Normal of "x" from 8 to 9 ∷ []) 0 ∷
    value 3 scratch 32768 gives refused 17 0 0 ∷
    value 6 scratch 32768 gives refused 17 0 0 ∷
    value 4 scratch 32767 gives refused 16 0 0 ∷
    []

abbrev pub comes_to : Case → Expected
comes_to c = outcome_of (value_at (utf8 c.file) (flat c.rows) c.which false c.words.numbers (utf8 c.words.bytes) c.scratch)

abbrev pub FieldCases : Type 0
FieldCases = map comes_to table ≡ map (λ c. c.outcome) table

-- ---- names at the limits. A name is one letter, and row 1 is the value that is resolved

abbrev pub letters : String
letters = "abcdefghijklmnopqrstuvwxyzABCDEFGHIJKLMNOPQRSTUVWXYZ"

-- the month word "Z", and its text
abbrev pub month_z : Words
month_z = record { numbers = 0 ∷ 1 ∷ 1 ∷ 2 ∷ []; bytes = "Zm" }

abbrev pub of_value : List Row → Words → Expected
of_value rs ws = outcome_of (value_at (utf8 letters) (flat rs) 1 false ws.numbers (utf8 ws.bytes) 32768)

-- a definition of the letter at place k, with the elements rs in front; and a use of that letter
abbrev pub define : ℕ → List Row → List Row
define k rs = DefinitionName from k to suc k ∷ Value from k to suc k ∷ rs

abbrev pub used : ℕ → Row
used k = Name from k to suc k

-- n definitions from place k on, whose value is the name of the next letter; and behind them one whose value is `last`
unfoldable pub chain : ℕ → ℕ → Row → List Row
chain zero k last = define k (last ∷ [])
chain (suc n) k last = define k (used (suc k) ∷ chain n (suc k) last)

-- the same with the name of the next letter twice, and behind them one whose value is an empty literal. So the last letter comes to one name, its
-- own, the one before it to 3, then 7, 15 and so on
unfoldable pub doubling : ℕ → ℕ → List Row
doubling zero k = define k (Literal from k to k ∷ [])
doubling (suc n) k = define k (used (suc k) ∷ used (suc k) ∷ doubling n (suc k))

-- "names 32 deep": "the 33rd name open at once" is refused, "month words included". "At one use: 12, 13, 14, 15": an unknown name is refused with
-- 12 at any depth, and one that is being resolved with 13
pub record Deep : Type 0 where
  pub thirty_two : of_value (chain 32 0 (Literal from 32 to 33)) none ≡ chunks (Normal of "G" from 32 to 33 ∷ []) 32
  pub thirty-three : of_value (chain 33 0 (Literal from 33 to 34)) none ≡ refused 14 33 34
  pub unknown : of_value (chain 32 0 (used 33)) none ≡ refused 12 33 34
  pub cyclic : of_value (chain 32 0 (used 1)) none ≡ refused 13 1 2
  pub month-32 : of_value (chain 31 0 (used 51)) month_z ≡ chunks (Normal of "m" from 51 to 52 ∷ []) 32
  pub month-33 : of_value (chain 32 0 (used 51)) month_z ≡ refused 14 51 52

-- "a field resolves at most 4,096 names": "a field's 4,097th name" is refused, "month words included". The letter at place 0 comes to 4,095 names,
-- and the one at place 11 to one
abbrev pub of_many : List Row → Words → Expected
of_many rs ws = of_value (define 50 (used 0 ∷ rs ++ doubling 11 0)) ws

-- 2,047, 1,023, 511, 255, 127, 63, 31 and 7 names are 4,064, and 32 more are each used in the one before: the next use is both that of the 33rd
-- name open and of the 4,097th
abbrev pub deep_and_many : Expected
deep_and_many =
    of_value (define 50 (used 0 ∷ used 1 ∷ used 2 ∷ used 3 ∷ used 4 ∷ used 5 ∷ used 6 ∷ used 8 ∷ used 11 ∷ doubling 10 0 ++ chain 31 11 (used 10))) none

pub record Many : Type 0 where
  pub the-4096th : of_many (used 11 ∷ []) none ≡ chunks (Normal of "" from 11 to 11 ∷ []) 4096
  pub the-4097th : of_many (used 11 ∷ used 11 ∷ []) none ≡ refused 15 11 12
  pub month-4097 : of_many (used 51 ∷ used 51 ∷ []) month_z ≡ refused 15 51 52
  pub deep-first : deep_and_many ≡ refused 14 10 11
