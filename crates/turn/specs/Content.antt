-- Content [resolve.rs:ContentParser], in the Rust's order: readers that emit parts, and the chunks that come of the parts.
--     Part, State, steps, chunks_of       parts, and [resolve.rs:turnaround]
--     backslash, command, maths           the Rust's functions of the same names
--     content_turn                        one turn of the loop of [resolve.rs:parse_impl]
--     inside, content                     content, with so many arguments left to open
--     flatten                             [resolve.rs:flatten]
-- Assumes nothing.
use Rattle.std.specs.Prelude.{ℕ, zero, suc, ◌+◌, ◌-◌, Bool, true, false, cond, not, ◌&&◌, List, [], ◌∷◌, ◌++◌, length, take, eqb, ltb, Option, Some, None}
use Rattle.text.specs.Class.{is_whitespace, is_control, is_id_continue, mark}
use Rattle.text.specs.Scan.{see, next_of, skip, fails, part}
use Rattle.text.specs.declared.class.Test.TheVariants as test
use Rattle.row.specs.declared.fault.Fault.{Fault}
use Rattle.row.specs.declared.fault.Reason.{Reason}
use Rattle.row.specs.declared.fault.Reason.TheVariants.{UnexpectedEof, UnexpectedClosingBrace, TooDeep}
use Rattle.row.specs.Fault.{fault_at}
use Rattle.raw.specs.Reader.{OutOf, ok, again, bad, ReaderOf, stop, turn, refuse, ◌then◌, when, sees, many}
use Rattle.raw.specs.Grammar.{is, any}
use Rattle.chunk.specs.declared.form.Kind.{Kind}
use Rattle.chunk.specs.declared.form.Kind.TheVariants.{Normal, Verbatim, Math}
use Rattle.chunk.specs.Chunk.{Chunk, chunk}
use Rattle.chunk.specs.Format.{format_verbatim, is_escapable}
use Rattle.command.specs.Stack.{default_chunk}
use Rattle.command.specs.Commands.{is_single_char_func}
use Rattle.command.specs.Execute.{absent, given, execute_command}

-- ---- parts, and the chunks that come of them

-- text onto the chunk under construction; a turnaround, where that chunk ends at e and one with d braces open begins at b; a chunk of math
pub data Part : Type 0 where
  put : List ℕ → Part
  cut : ℕ → ℕ → ℕ → Part
  math : List ℕ → ℕ → ℕ → Part

-- a reader of content emits parts
abbrev pub Reader : Type 0
Reader = ReaderOf Part

-- the chunks that are done; the kind, text and start of the one under construction
pub record State : Type 0 where
  pub done : List Chunk
  pub kind : Kind
  pub text : List ℕ
  pub start : ℕ

abbrev pub state : List Chunk → Kind → List ℕ → ℕ → State
state cs k t a = record { done = cs; kind = k; text = t; start = a }

-- [resolve.rs:turnaround] the chunk under construction is done, and ends at e
abbrev pub pushed : State → ℕ → List Chunk
pushed σ e = σ.done ++ chunk σ.kind σ.text σ.start e ∷ []

-- the state after one part more
abbrev pub step : State → Part → State
step σ (put w) = state σ.done σ.kind (σ.text ++ w) σ.start
step σ (cut d e b) = state (pushed σ e) (default_chunk d) [] b
step σ (math w a e) = state (σ.done ++ chunk Math w a e ∷ []) σ.kind σ.text σ.start

unfoldable pub steps : State → List Part → State
steps σ [] = σ
steps σ (x ∷ xs) = steps (step σ x) xs

-- the last chunk is done too if it has text, or if there is no other
abbrev pub closed : State → ℕ → List ℕ → List Chunk → List Chunk
closed σ e [] [] = pushed σ e
closed σ e [] (c ∷ cs) = σ.done
closed σ e (b ∷ t) cs = pushed σ e

-- the content begins at p with a Normal chunk, and ends at e
abbrev pub beginning : ℕ → State
beginning p = state [] Normal [] p

abbrev pub chunks_of : ℕ → ℕ → List Part → List Chunk
chunks_of p e xs = let σ : State = steps (beginning p) xs in closed σ e σ.text σ.done

-- ---- small readers

-- the refusal of the byte at p
abbrev pub refused_byte : Reason → ℕ → Fault
refused_byte reason p = record { reason = reason; start = p; end = p + 1 }

-- puts the text w, and reads nothing
abbrev pub write : List ℕ → Reader
write w s p = ok p (put w ∷ [])

-- the character at p, as it stands
abbrev pub copy : Reader
copy s p = ok (next_of p (see s p)) (put (part s p (next_of p (see s p))) ∷ [])

-- eats the characters that pass the test t, and puts nothing
abbrev pub past : (ℕ → Bool) → Reader
past t s p = ok (skip t s p) []

-- ---- [resolve.rs:command]

-- "A command's argument ends at its counted brace with no regard for backslashes" [01:Resolving and writing]: one turn of the search for that
-- brace, with d braces open inside the argument
unfoldable pub end_turn : ℕ → Reader
end_turn zero =
    past (fails test.Brace) then
    sees (is 0x7D) stop
    (when (is 0x7B) (turn 1)
    (refuse UnexpectedEof))
end_turn (suc d) =
    past (fails test.Brace) then
    when (is 0x7D) (turn d)
    (when (is 0x7B) (turn (suc (suc d)))
    (refuse UnexpectedEof))

-- the place of the brace that closes an argument
unfoldable pub argument_end : Reader
argument_end = many end_turn 0

-- what a command comes to, by the outcome of reading its argument, which begins at p
abbrev pub ran : ℕ → List ℕ → OutOf Part → (List ℕ → OutOf Part) → OutOf Part
ran p name (ok q xs) g = g (execute_command name (given (format_verbatim (chunks_of p q xs))))
ran p name (again q xs a) g = g (execute_command name (given (format_verbatim (chunks_of p q xs))))
ran p name (bad f) g = bad f

-- what g gives for the place where an argument ends; or the refusal, where it has no end
abbrev pub ends_at : OutOf Part → (ℕ → OutOf Part) → OutOf Part
ends_at (ok e xs) g = g e
ends_at (again e xs a) g = g e
ends_at (bad f) g = bad f

-- a command with an argument, which begins at b behind its brace. "That end is sought before the inside is read" [01:Resolving and writing]
unfoldable pub braced : Reader → List ℕ → Reader
braced argument name s b =
    ends_at (argument_end s b) (λ e.
    ran b name (argument (take e s) b) (λ w. ok (e + 1) (put w ∷ [])))

-- an opening brace is seen
abbrev pub opens_at : Option (ℕ × ℕ) → Bool
opens_at None = false
opens_at (Some (c, n)) = eqb c 0x7B

-- whether a command takes the one character behind it as its argument. Its name begins with the character c, which ends at n; the name ends
-- at e, and the white space behind it at w
abbrev pub takes_one : ℕ → ℕ → ℕ → ℕ → List ℕ → Bool
takes_one c n e w s = not (opens_at (see s w)) && eqb n e && not (eqb c 0x2D) && is_single_char_func c (not (eqb e w))

-- a command whose name stands from p to e, by what follows: the one character that it takes, an argument in braces, or no argument
unfoldable pub with_name : Reader → ℕ → ℕ → ℕ → ℕ → ℕ → Reader
with_name argument c p n e w s q =
    cond (takes_one c n e w s)
    (ok (next_of w (see s w)) (put (execute_command (part s p e) (given (part s w (next_of w (see s w))))) ∷ []))
    (cond (eqb e w && opens_at (see s w))
    (braced argument (part s p e) s (w + 1))
    (ok w (put (execute_command (part s p e) absent) ∷ [])))

-- the place after the name whose first character is c and ends at n
abbrev pub name_end : ℕ → ℕ → List ℕ → ℕ
name_end c n s = cond (is_single_char_func c false) n (skip is_id_continue s n)

unfoldable pub command : Reader → ℕ → ℕ → Reader
command argument c n s p = with_name argument c p n (name_end c n s) (skip is_whitespace s (name_end c n s)) s p

-- ---- [resolve.rs:backslash], behind the backslash

-- a character that stands for itself behind a backslash: `^` and `~` are names of commands instead
abbrev pub is_escape : Bool → ℕ → Bool
is_escape verb c = not (mark (0x5E ∷ 0x7E ∷ []) c) && is_escapable c verb true

-- a character that a command's name may begin with
abbrev pub begins : ℕ → Bool
begins c = not (is_whitespace c) && not (is_control c)

-- by what is seen behind the backslash
abbrev pub backslash_at : Reader → Bool → List ℕ → ℕ → Option (ℕ × ℕ) → OutOf Part
backslash_at argument true s p None = ok p (put (0x5C ∷ []) ∷ [])
backslash_at argument false s p None = bad (fault_at UnexpectedEof p)
backslash_at argument true s p (Some (c, n)) =
    cond (is_escape true c) (ok n (put (part s p n) ∷ [])) (ok p (put (0x5C ∷ []) ∷ []))
backslash_at argument false s p (Some (c, n)) =
    cond (is_escape false c) (ok n (put (part s p n) ∷ []))
    (cond (begins c) (command argument c n s p)
    (ok p (put (0x5C ∷ part s p n) ∷ [])))

unfoldable pub backslash : Reader → Bool → Reader
backslash argument verb s p = backslash_at argument verb s p (see s p)

-- ---- [resolve.rs:math], at the dollar sign, where the chunk under construction ends; d braces are open

unfoldable pub maths : ℕ → Reader
maths d s p =
    let e : ℕ = skip (fails test.Dollar) s (p + 1) in
    cond (ltb e (length s)) (ok (e + 1) (cut d p (e + 1) ∷ math (part s (p + 1) e) (p + 1) e ∷ [])) (bad (fault_at UnexpectedEof e))

-- ---- [resolve.rs:parse_impl]

-- at a brace: the chunk ends before it, and one with d braces open begins behind it
abbrev pub turnaround : ℕ → Reader
turnaround d s p = ok (p + 1) (cut d p (p + 1) ∷ [])

-- at a closing brace, which is refused where no brace is open
unfoldable pub closing : ℕ → Reader
closing zero s p = bad (refused_byte UnexpectedClosingBrace p)
closing (suc d) s p = again (p + 1) (cut d p (p + 1) ∷ []) d

-- one to three hyphens: a hyphen, an en dash, an em dash
unfoldable pub hyphens : Reader
hyphens =
    when (is 0x2D)
    (when (is 0x2D)
    (when (is 0x2D) (write (0xE2 ∷ 0x80 ∷ 0x94 ∷ []))
    (write (0xE2 ∷ 0x80 ∷ 0x93 ∷ [])))
    (write (0x2D ∷ [])))
    stop

-- one turn with d braces open
unfoldable pub content_turn : Reader → Bool → ℕ → Reader
content_turn argument verb d =
    when (is 0x5C) (backslash argument verb then turn d)
    (sees (λ c. eqb c 0x24 && not verb) (maths d then turn d)
    (sees (is 0x7B) (turnaround (suc d) then turn (suc d))
    (sees (is 0x7D) (closing d)
    (sees (λ c. eqb c 0x2D && not verb) (hyphens then turn d)
    (sees is_whitespace (write (0x20 ∷ []) then past is_whitespace then turn d)
    (sees any (copy then turn d)
    stop))))))

-- content, where `argument` reads what stands in a command's braces
unfoldable pub content_by : Reader → Bool → Reader
content_by argument verb = many (content_turn argument verb) 0

-- what stands in a command's braces, with n arguments left to open. "A command's argument is never verbatim" [01:From file to field]; an
-- argument too many is refused at "the byte of the argument's opening brace" [01:Numbers a caller can get]
unfoldable pub inside : ℕ → Reader
inside zero s p = bad (refused_byte TooDeep (p - 1))
inside (suc n) s p = content_by (inside n) false s p

abbrev pub content : ℕ → Bool → Reader
content n verb = content_by (inside n) verb

-- ---- [resolve.rs:flatten]

-- "Flattening joins neighbours of the same kind, Normal or Verbatim" [01:Resolving and writing]
abbrev pub joins : Kind → Kind → Bool
joins Normal Normal = true
joins Normal Verbatim = false
joins Normal Math = false
joins Verbatim Normal = false
joins Verbatim Verbatim = true
joins Verbatim Math = false
joins Math k = false

-- "The joined span takes the first start and the last end" [01:Resolving and writing]
abbrev pub join : Chunk → Chunk → Chunk
join c d = chunk c.kind (c.text ++ d.text) c.start d.end

-- c is the chunk that the next ones are joined to, as long as they join
unfoldable pub flatten_from : Chunk → List Chunk → List Chunk
flatten_from c [] = c ∷ []
flatten_from c (d ∷ cs) = cond (joins c.kind d.kind) (flatten_from (join c d) cs) (c ∷ flatten_from d cs)

abbrev pub flatten : List Chunk → List Chunk
flatten [] = []
flatten (c ∷ cs) = flatten_from c cs
