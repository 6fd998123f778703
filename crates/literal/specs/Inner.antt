-- Definitions for the contracts of the inner functions: what the text under construction and the rows hold while content is read.
--     HoldsState, Goes                     a state of content as the code has it; from one to the next
--     SignEnds, SaysSign                   where a brace or a formula ends; a turn that ends a chunk. Turns that write text are in the crate `turn`
--     ArgumentBegun, ArgumentFinished      how a command's argument begins and ends
--     SaysContent, SaysArgument            content, and a command with its argument, which call each other
--     SaysBegun                            the text that a literal begins with. For `begin`, which the crates above call
--     SaysParsed                           a literal. For `parse` and `rest`, which the crates above call
--     AheadState, ReadyContent             bounds: the text grows by at most two bytes for each byte read
-- Nothing is said of the text and the rows after a refusal: a literal is resolved over a small room first, and its bytes are wiped at the end.
-- Assumes nothing.
use Rattle.row.specs.declared.fault.Fault.{Fault}
use Rattle.std.specs.Prelude.{ℕ, ◌+◌, ◌*◌, ◌≤◌, ◌<◌, ◌≡◌, Bool, true, false, cond, List, [], ◌∷◌, ◌++◌, map, length, take, get_or, eqb, Result, Ok, Err}
use Rattle.text.specs.Scan.{part}
use Rattle.row.specs.Limits.{most_bytes, most_literal, least_scratch}
use Rattle.raw.specs.Reader.{OutOf, ok, again, bad, more}
use Rattle.chunk.specs.declared.form.Kind.TheVariants.{Normal}
use Rattle.chunk.specs.Chunk.{Chunk, chunk}
use Rattle.chunk.specs.Format.{format_verbatim, white_from}
use Rattle.command.specs.declared.meaning.Meaning.{Meaning}
use Rattle.command.specs.Stack.{Lays, default_chunk}
use Rattle.command.specs.Execute.{given, execute_command, leading}
use Rattle.literal.specs.declared.rows.Rows.{Rows}
use Rattle.literal.specs.declared.making.Making.{Making}
use Rattle.literal.specs.declared.making.Place.{Place}
use Rattle.literal.specs.declared.parse.Begun.{Begun}
use Rattle.literal.specs.declared.parse.Begun.TheVariants as begun
use Rattle.turn.specs.Content.{Part, cut, math, Reader, State, beginning, steps, chunks_of, flatten, content_turn}
use Rattle.turn.specs.Turns.{turns, Wrote, Placed, Grows, ReadyText}
use Rattle.literal.specs.Rows.{most_number, most_rows, RowsHold, texts_of}
use Rattle.literal.specs.Literal.{Resolved, chunks, refused, chunk_up, resolve_literal}

-- ---- content under construction

-- the text of the chunks that are done, as it stands in the bytes: formatted already in an argument, as it is in a literal
abbrev pub standing : Bool → List Chunk → List ℕ
standing true cs = format_verbatim cs
standing false cs = texts_of cs

abbrev pub some : List Chunk → Bool
some [] = false
some (c ∷ cs) = true

-- a literal's chunks become rows behind those of the chunks ps that the value has before it; an argument's chunks become no rows
abbrev pub RowsHeld : Bool → Place → List ℕ → List Chunk → List ℕ → List Chunk → Rows → List ℕ → Type 0
RowsHeld true place t₀ ps b₀ cs k b = b ≡ b₀
RowsHeld false place t₀ ps b₀ cs k b =
    RowsHold (flatten (ps ++ map (chunk_up place.base) cs)) b₀ k b × (place.text ≡ length (texts_of ps)) × (length t₀ ≡ 0)

-- m, the bytes o and the numbers b hold the state σ, where the text t₀ stood in o before
pub record HoldsState (place : Place) (t₀ : List ℕ) (ps : List Chunk) (b₀ : List ℕ) (σ : State) (m : Making) (o b : List ℕ) : Type 0 where
  pub stack : take m.len o ≡ t₀ ++ standing place.argument σ.done ++ σ.text
  pub from : m.from ≡ length t₀ + length (standing place.argument σ.done)
  pub len : m.len ≡ m.from + length σ.text
  pub start : m.start ≡ σ.start
  pub kind : σ.kind ≡ default_chunk m.braces
  pub white : place.argument ≡ true → m.white ≡ white_from false σ.done
  pub pushed : m.pushed ≡ some σ.done
  pub rows : RowsHeld place.argument place t₀ ps b₀ σ.done m.rows b

-- the parts xs lead from m, o, b to m', o', b'
abbrev pub Goes : Place → List Part → Making → List ℕ → List ℕ → Making → List ℕ → List ℕ → Type 0
Goes place xs m o b m' o' b' =
    (t₀ : List ℕ) (ps : List Chunk) (b₀ : List ℕ) (σ : State) → HoldsState place t₀ ps b₀ σ m o b → HoldsState place t₀ ps b₀ (steps σ xs) m' o' b'

-- what is required to end a chunk: the text lies in the bytes, the places in the file have 32 bits, and no sum overflows
pub record Fits (place : Place) (m : Making) (len : ℕ) : Type 0 where
  pub from : m.from ≤ m.len
  pub to : m.len ≤ len
  pub text : place.text + m.len ≤ most_number + least_scratch
  pub start : place.base + m.start ≤ most_number
  pub rows : m.rows.n ≤ most_rows + most_literal

-- the chunk of m is done and ends at e, and one with d braces open begins at p
pub record ChunkDone (place : Place) (m : Making) (e d p : ℕ) (o b : List ℕ) (m' : Making) (o' b' : List ℕ) : Type 0 where
  pub goes : Goes place (cut d e p ∷ []) m o b m' o' b'
  pub at : m'.at ≡ p
  pub braces : m'.braces ≡ d
  pub start : m'.start ≡ p
  pub from : m'.from ≡ m'.len
  pub len : m'.len ≤ m.len
  pub rows : m'.rows.n ≤ m.rows.n + 1

-- a chunk of math is done, whose text stands in the content from a to e
pub record MathDone (s : List ℕ) (a e : ℕ) (place : Place) (m : Making) (o b : List ℕ) (m' : Making) (o' b' : List ℕ) : Type 0 where
  pub goes : Goes place (math (part s a e) a e ∷ []) m o b m' o' b'
  pub at : m'.at ≡ m.at
  pub braces : m'.braces ≡ m.braces
  pub start : m'.start ≡ m.start
  pub from : m'.from ≡ m'.len
  pub len : m'.len + a ≤ m.len + e + 2
  pub rows : m'.rows.n ≤ m.rows.n + 1

-- ---- a turn that ends a chunk

-- content from where a state stands
abbrev pub from : Reader → Bool → List ℕ → Making → OutOf Part
from argument verb s m = turns argument verb m.braces s m.at

-- turns that lead from m to m', where the content goes on, and the parts that they emit
pub record Onto (place : Place) (verb : Bool) (s : List ℕ) (m : Making) (o b : List ℕ) (m' : Making) (o' b' : List ℕ) : Type 0 where
  pub parts : List Part
  pub leads : (argument : Reader) → from argument verb s m ≡ more parts (from argument verb s m')
  pub goes : Goes place parts m o b m' o' b'

-- the formula from one dollar sign to another; at a brace there is none
abbrev pub formula : List ℕ → ℕ → ℕ → List Part
formula s p q = cond (eqb (get_or s p 0) 0x24) (math (part s (p + 1) q) (p + 1) q ∷ []) []

-- the turn at a sign at p, with d braces open, ends at its last byte q, with e braces open
pub record SignTurn (verb : Bool) (s : List ℕ) (p d q e : ℕ) : Type 0 where
  pub from : p ≤ q
  pub inside : q < length s
  pub braces : e ≤ d + 1
  pub math : get_or s p 0 ≡ 0x24 → p < q
  pub turn : (argument : Reader) → content_turn argument verb d s p ≡ again (q + 1) (cut e p (q + 1) ∷ formula s p q) e

-- where a sign ends, or why it is refused
abbrev pub SignEnds : Bool → List ℕ → ℕ → ℕ → Result (ℕ × ℕ) Fault → Type 0
SignEnds verb s p d (Ok (q, e)) = SignTurn verb s p d q e
SignEnds verb s p d (Err f) = ((argument : Reader) → content_turn argument verb d s p ≡ bad f) × Placed (length s) f

-- a turn that ends a chunk
abbrev pub SaysSign : Place → Bool → List ℕ → Making → List ℕ → List ℕ → Result Making Fault → List ℕ → List ℕ → Type 0
SaysSign place verb s m o b (Ok m') o' b' = Onto place verb s m o b m' o' b'
SaysSign place verb s m o b (Err f) o' b' = (argument : Reader) → from argument verb s m ≡ bad f

-- ---- a command with its argument

-- m' is m at the place q, with a text that ends at l
pub record Further (m : Making) (q l : ℕ) (m' : Making) : Type 0 where
  pub at : m'.at ≡ q
  pub len : m'.len ≡ l
  pub braces : m'.braces ≡ m.braces
  pub pushed : m'.pushed ≡ m.pushed
  pub start : m'.start ≡ m.start
  pub from : m'.from ≡ m.from
  pub white : m'.white ≡ m.white
  pub rows : m'.rows ≡ m.rows

-- the text of a command whose argument from p to q has the parts xs
abbrev pub whole_text : List ℕ → ℕ → ℕ → List Part → List ℕ
whole_text name p q xs = execute_command name (given (format_verbatim (chunks_of p q xs)))

-- the place of an argument: it has no rows
abbrev pub in_argument : Place
in_argument = record { argument = true; base = 0; text = 0 }

-- the state i with which the content of an argument begins, at p, behind what the command writes before it
pub record ArgumentBegun (name : List ℕ) (k : Meaning) (p : ℕ) (m : Making) (o : List ℕ) (i : Making) (o' : List ℕ) : Type 0 where
  pub at : i.at ≡ p
  pub braces : i.braces ≡ 0
  pub holds : HoldsState in_argument (take m.len o ++ leading name k) [] [] (beginning p) i o' []

-- what lies where when the content of an argument has been read: the command's text begins where m's ends, what it writes before the argument
-- ends at `lead`, and the chunk under construction of t lies behind that
pub record Closes (s : List ℕ) (end to lead : ℕ) (m t : Making) (o : List ℕ) : Type 0 where
  pub name : m.at + 2 ≤ end
  pub from : end + 1 ≤ to
  pub inside : to < length s
  pub first : m.len ≤ lead
  pub short : lead + (m.at + 1) ≤ m.len + end + 2
  pub chunk : lead ≤ t.from
  pub last : t.from ≤ t.len
  pub text : t.len + 2 * (end + 1) ≤ lead + 2 * to
  pub room : m.len + 2 * length s ≤ length o + 2 * m.at

-- what is made of an argument's content, which t holds, where the text T stood before the command
abbrev pub ArgumentFinished : List ℕ → Meaning → ℕ → ℕ → Making → Making → List ℕ → Making → List ℕ → Type 0
ArgumentFinished name k p e m t o m' o' =
    (T : List ℕ) (q : ℕ) (xs : List Part) → length T ≡ m.len
    → HoldsState in_argument (T ++ leading name k) [] [] (steps (beginning p) xs) t o []
    → Further m (e + 1) (m.len + length (whole_text name p q xs)) m'
    × (take (m.len + length (whole_text name p q xs)) o' ≡ T ++ whole_text name p q xs)

-- ---- content and argument

-- what reading content answers, by the outcome that the definition gives
abbrev pub SaysContent : Place → OutOf Part → Making → List ℕ → List ℕ → Result Making Fault → List ℕ → List ℕ → Type 0
SaysContent place (ok q xs) m o b (Ok m') o' b' = (m'.at ≡ q) × Goes place xs m o b m' o' b'
SaysContent place (ok q xs) m o b (Err f) o' b' = ⊥
SaysContent place (again q xs a) m o b (Ok m') o' b' = (m'.at ≡ q) × Goes place xs m o b m' o' b'
SaysContent place (again q xs a) m o b (Err f) o' b' = ⊥
SaysContent place (bad g) m o b (Ok m') o' b' = ⊥
SaysContent place (bad g) m o b (Err f) o' b' = f ≡ g

-- a command with its argument puts one text, and content goes on behind the brace at e
abbrev pub PutsText : List ℕ → ℕ → Making → List ℕ → Making → List ℕ → Type 0
PutsText w e m o m' o' = Further m (e + 1) (m.len + length w) m' × Lays m.len w o m'.len o'

-- what a command with its argument answers, by the outcome of the argument's content from p on
abbrev pub SaysArgument : OutOf Part → List ℕ → ℕ → ℕ → Making → List ℕ → Result Making Fault → List ℕ → Type 0
SaysArgument (ok q xs) name p e m o (Ok m') o' = PutsText (whole_text name p q xs) e m o m' o'
SaysArgument (ok q xs) name p e m o (Err f) o' = ⊥
SaysArgument (again q xs a) name p e m o (Ok m') o' = PutsText (whole_text name p q xs) e m o m' o'
SaysArgument (again q xs a) name p e m o (Err f) o' = ⊥
SaysArgument (bad g) name p e m o (Ok m') o' = ⊥
SaysArgument (bad g) name p e m o (Err f) o' = f ≡ g

-- ---- a literal

-- the content of the literal s is read up to p: it has only written text, which has n bytes and stands in o
pub record ReadTo (verb : Bool) (s : List ℕ) (p n : ℕ) (o : List ℕ) : Type 0 where
  pub wrote : Wrote verb s 0 0 [] p n o
  pub grows : Grows (length s) 0 0 0 p n

-- the literal s is one chunk, wherever it stands, and its text is the first n bytes of o
pub record OneChunk (verb : Bool) (s : List ℕ) (n : ℕ) (o : List ℕ) : Type 0 where
  pub is : (base : ℕ) → resolve_literal verb s base ≡ chunks (chunk Normal (take n o) base (base + length s) ∷ [])
  pub few : n ≤ least_scratch

-- what `begin` answers for a literal: all of it is text, or its text up to a place
abbrev pub SaysBegun : Bool → List ℕ → Begun → List ℕ → Type 0
SaysBegun verb s (begun.Whole n) o = OneChunk verb s n o
SaysBegun verb s (begun.Part p n) o = ReadTo verb s p n o

-- the chunks cs of a literal behind the chunks ps that the value has before it: their text stands in the bytes o', and their rows behind those
-- of ps
pub record Added (ps cs : List Chunk) (b₀ : List ℕ) (k : Rows) (len : ℕ) (o' b' : List ℕ) : Type 0 where
  pub text : take len o' ≡ texts_of cs
  pub bytes : len ≡ length (texts_of cs)
  pub rows : RowsHold (flatten (ps ++ cs)) b₀ k b'

-- the content of a literal has been read, and t holds its parts xs: its last chunk is done too, if it has to be
pub record LastChunkDone (place : Place) (t : Making) (o b : List ℕ) (k : Rows) (o' b' : List ℕ) : Type 0 where
  pub adds : (ps : List Chunk) (b₀ : List ℕ) (xs : List Part) → HoldsState place [] ps b₀ (steps (beginning 0) xs) t o b
      → RowsHold (flatten (ps ++ map (chunk_up place.base) (chunks_of 0 t.at xs))) b₀ k b'
      × (take t.len o' ≡ texts_of (chunks_of 0 t.at xs)) × (t.len ≡ length (texts_of (chunks_of 0 t.at xs)))
  pub few : k.n ≤ t.rows.n + 1

-- what `parse` answers for a literal, by the chunks or the refusal that the definition gives. `have` and b hold the rows of any chunks that the
-- value has before it, whose text has `before` bytes
abbrev pub SaysParsed : Resolved → ℕ → Rows → List ℕ → Result (Rows × ℕ) Fault → List ℕ → List ℕ → Type 0
SaysParsed (chunks cs) before have b (Ok (k, len)) o' b' =
    (ps : List Chunk) (b₀ : List ℕ) → before ≡ length (texts_of ps) → RowsHold (flatten ps) b₀ have b → Added ps cs b₀ k len o' b'
SaysParsed (chunks cs) before have b (Err f) o' b' = ⊥
SaysParsed (refused g) before have b (Ok (k, len)) o' b' = ⊥
SaysParsed (refused g) before have b (Err f) o' b' = f ≡ g

-- ---- bounds

-- the bounds of a state: its place and its text grow as `Grows` says, it has at most one row more and one open brace more for each byte read,
-- and its chunk begins before its end
pub record AheadState (len v : ℕ) (m m' : Making) : Type 0 where
  pub grows : Grows len v m.at m.len m'.at m'.len
  pub rows : m'.rows.n + m.at ≤ m.rows.n + m'.at
  pub braces : m'.braces + m.at ≤ m.braces + m'.at
  pub from : m'.from ≤ m'.len
  pub start : m'.start ≤ m'.at

-- the bounds of an answer
abbrev pub AheadMade : ℕ → ℕ → Making → Result Making Fault → Type 0
AheadMade len v m (Ok m') = AheadState len v m m'
AheadMade len v m (Err f) = Placed len f

-- [01:From file to field] "resolving's scratch at least 32,768": the text of a literal of 16,384 bytes fits there, and it has at most a row
-- for each byte and one more. A refusal's place lies in the file
abbrev pub GrowsParsed : Rows → Result (Rows × ℕ) Fault → Type 0
GrowsParsed have (Ok (k, len)) = (len ≤ least_scratch) × (k.n ≤ have.n + (most_literal + 1))
GrowsParsed have (Err f) = Placed most_bytes f

-- what a function requires that reads content or ends a chunk: a literal inside 01's limit, in a file inside 01's limit
pub record ReadyContent (s : List ℕ) (place : Place) (m : Making) (o : List ℕ) : Type 0 where
  pub literal : length s ≤ most_literal
  pub text : ReadyText s m.at m.len o
  pub from : m.from ≤ m.len
  pub start : m.start ≤ m.at
  pub braces : m.braces ≤ m.at
  pub rows : m.rows.n ≤ most_rows + m.at
  pub value : place.text + m.len + 2 * length s ≤ most_number + least_scratch + 2 * m.at
  pub file : place.base ≤ most_bytes

-- what `parse` requires: a literal s of a file inside 01's limit, at `base` in it; the text of the value before it no longer than a row's
-- numbers reach
pub record ReadyLiteral (s : List ℕ) (base before : ℕ) (have : Rows) (o : List ℕ) : Type 0 where
  pub file : base + length s ≤ most_bytes
  pub scratch : least_scratch ≤ length o
  pub value : before ≤ most_number
  pub rows : have.n ≤ most_rows
