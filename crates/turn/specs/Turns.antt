-- Definitions for the contracts of src/turn.rt: turns that write text, as specs/Content.antt has them.
--     is_sign, ends_text, Ordinary             bytes, and what a turn does at them
--     turns, CopiesOne, CopiesAll, Wrote       content from a place on; turns that copy, and turns that write text
--     WordRun                                  bytes that turns copy one by one
--     Behind, Command, Took                    what stands behind a backslash; a command that is written
--     end_of, ArgumentEnds, EndInside          where an argument ends
--     SaysText                                 what a function answers whose turns write text
--     Grows, GrowsText, ReadyText              bounds: the text grows by at most two bytes for each byte read
-- Assumes nothing.
use Rattle.turn.specs.declared.turn.Text.{Text}
use Rattle.std.specs.Prelude.{ℕ, ◌+◌, ◌*◌, ◌≤◌, ◌<◌, max, ◌≡◌, Bool, true, false, not, ◌&&◌, ◌||◌, List, [], ◌∷◌, ◌++◌, map, length, take, get_or, eqb, Some, Result, Ok, Err}
use Rattle.text.specs.Block.{is_simple}
use Rattle.text.specs.Scan.{part, see}
use Rattle.row.specs.declared.fault.Fault.{Fault}
use Rattle.raw.specs.Reader.{OutOf, ok, again, bad, more, many}
use Rattle.command.specs.Stack.{Lays}
use Rattle.command.specs.Commands.{meaning_of}
use Rattle.command.specs.Execute.{Argument, execute_command}
use Rattle.turn.specs.declared.turn.Text.TheVariants as text
use Rattle.turn.specs.Content.{Part, put, Reader, content_turn, ran, is_escape}

-- ---- a turn

-- a byte before which a chunk ends: a brace, or a dollar sign unless the field is verbatim
abbrev pub is_sign : Bool → ℕ → Bool
is_sign verb b = eqb b 0x7B || eqb b 0x7D || (eqb b 0x24 && not verb)

-- a byte before which text ends: a backslash, or one before which a chunk ends
abbrev pub ends_text : Bool → ℕ → Bool
ends_text verb b = eqb b 0x5C || is_sign verb b

-- a byte at which a turn only writes text: no brace, and no dollar sign unless the field is verbatim
abbrev pub Ordinary : Bool → ℕ → Type 0
Ordinary verb b = (b ≡ 0x7B → ⊥) × (b ≡ 0x7D → ⊥) × (b ≡ 0x24 → verb ≡ true)

-- a backslash stands at p, and behind it the character c, which ends at n
pub record Behind (s : List ℕ) (p c n : ℕ) : Type 0 where
  pub inside : p < length s
  pub backslash : get_or s p 0 ≡ 0x5C
  pub seen : see s (p + 1) ≡ Some (c, n)
  pub from : p + 2 ≤ n
  pub to : n ≤ length s
  -- the character c does not stand for itself
  pub command : is_escape false c ≡ false

-- the name of a command, whose backslash stands at p, ends at `end`, and the white space behind it at w
pub record Command (s : List ℕ) (p end w : ℕ) : Type 0 where
  pub name : p + 2 ≤ end
  pub white : end ≤ w
  pub inside : w ≤ length s

-- content from p on, with d braces open
abbrev pub turns : Reader → Bool → ℕ → List ℕ → ℕ → OutOf Part
turns argument verb d s p = many (content_turn argument verb) d s p

unfoldable pub concat : List (List ℕ) → List ℕ
concat [] = []
concat (w ∷ ws) = w ++ concat ws

-- whatever arguments come to, the turn from p to r copies what stands there
abbrev pub Copies : List ℕ → ℕ → ℕ → Type 0
Copies s p r = (argument : Reader) (verb : Bool) (d : ℕ) → content_turn argument verb d s p ≡ again r (put (part s p r) ∷ []) d

-- r is p itself, or the place after a turn that copies what stands from p to r
pub record CopiesOne (s : List ℕ) (p r : ℕ) : Type 0 where
  pub from : p ≤ r
  pub to : r ≤ length s
  pub copies : p < r → Copies s p r

-- all turns from p to r copy what stands there
pub record CopiesAll (s : List ℕ) (p r : ℕ) : Type 0 where
  pub from : p ≤ r
  pub to : r ≤ max p (length s)
  pub texts : List (List ℕ)
  pub same : concat texts ≡ part s p r
  pub leads : (argument : Reader) (verb : Bool) (d : ℕ) → turns argument verb d s p ≡ more (map put texts) (turns argument verb d s r)

-- every byte from p to r is simple, and behind each blank among them stands another that is no blank
pub record WordRun (s : List ℕ) (p r : ℕ) : Type 0 where
  pub from : p ≤ r
  pub to : r ≤ max p (length s)
  pub simple : (k : ℕ) → p ≤ k → k < r → is_simple (get_or s k 0) ≡ true
  pub single : (k : ℕ) → p ≤ k → k < r → get_or s k 0 ≡ 0x20 → (k + 1 < r) × (get_or s (k + 1) 0 ≡ 0x20 → ⊥)

-- where an argument ends, or why it is refused, as the code says it
abbrev pub end_of : OutOf Part → Result ℕ Fault
end_of (ok e xs) = Ok e
end_of (again e xs a) = Ok e
end_of (bad f) = Err f

-- an argument that begins at p ends inside the text of `len` bytes, or is refused
abbrev pub ArgumentEnds : ℕ → ℕ → OutOf Part → Type 0
ArgumentEnds len p (ok e xs) = (p ≤ e) × (e < len)
ArgumentEnds len p (again e xs a) = ⊥
ArgumentEnds len p (bad f) = Unit {0}

-- a refusal has its place inside the content
abbrev pub Placed : ℕ → Fault → Type 0
Placed len f = (f.start ≤ len) × (f.end ≤ len)

-- an argument that begins at p ends inside the text, or its refusal has a place inside it
abbrev pub EndInside : ℕ → ℕ → Result ℕ Fault → Type 0
EndInside len p (Ok e) = (p ≤ e) × (e < len)
EndInside len p (Err f) = Placed len f

-- whatever arguments come to, the turns from p to q write text only, which is laid onto what ends at n
pub record Wrote (verb : Bool) (s : List ℕ) (p n : ℕ) (o : List ℕ) (q l : ℕ) (o' : List ℕ) : Type 0 where
  pub texts : List (List ℕ)
  pub leads : (argument : Reader) (d : ℕ) → turns argument verb d s p ≡ more (map put texts) (turns argument verb d s q)
  pub lays : Lays n (concat texts) o l o'

-- a command whose name ends at `end`, with an argument from a to e, and what follows it
abbrev pub opened : Reader → Bool → ℕ → List ℕ → ℕ → ℕ → ℕ → ℕ → OutOf Part
opened argument verb d s p end a e =
    ran a (part s (p + 1) end) (argument (take e s) a) (λ w. more (put w ∷ []) (turns argument verb d s (e + 1)))

-- what the answer to a turn at p says: the content has ended; text was written; the content is refused; or a command has an argument in
-- braces, for which nothing is written yet
abbrev pub SaysText : Bool → List ℕ → ℕ → ℕ → List ℕ → Result Text Fault → List ℕ → Type 0
SaysText verb s p n o (Ok text.End) o' = ((argument : Reader) (d : ℕ) → turns argument verb d s p ≡ ok p []) × (o' ≡ o)
SaysText verb s p n o (Ok (text.Put q l)) o' = Wrote verb s p n o q l o'
SaysText verb s p n o (Err f) o' = (argument : Reader) (d : ℕ) → turns argument verb d s p ≡ bad f
SaysText verb s p n o (Ok (text.Argument k end a e)) o' =
    ((argument : Reader) (d : ℕ) → turns argument verb d s p ≡ opened argument verb d s p end a e)
    × (k ≡ meaning_of (part s (p + 1) end)) × (o' ≡ o)

-- a command whose name ends at `end` is written with the argument `arg`, and the content goes on at q
pub record Took (s : List ℕ) (p end : ℕ) (arg : Argument) (q n : ℕ) (o : List ℕ) (r : Result Text Fault) (o' : List ℕ) : Type 0 where
  pub len : ℕ
  pub told : r ≡ Ok (text.Put q len)
  pub lays : Lays n (execute_command (part s (p + 1) end) arg) o len o'

-- ---- bounds

-- the place goes on from p to q, by v bytes at least and not past `len`; the text's end goes on from n to l, by at most two bytes for each
-- byte read
pub record Grows (len v p n q l : ℕ) : Type 0 where
  pub at : p + v ≤ q
  pub inside : q ≤ len
  pub text : l + 2 * p ≤ n + 2 * q

-- the name of a command begins behind the backslash at p, and its argument behind the brace that follows the name
abbrev pub CommandSpans : ℕ → ℕ → ℕ → ℕ → ℕ → Type 0
CommandSpans len p end a e = (p + 2 ≤ end) × (end + 1 ≡ a) × (a ≤ e) × (e < len)

-- the bounds of each answer
abbrev pub GrowsText : ℕ → ℕ → ℕ → Result Text Fault → Type 0
GrowsText len p n (Ok text.End) = Unit {0}
GrowsText len p n (Ok (text.Put q l)) = Grows len 1 p n q l
GrowsText len p n (Err f) = Placed len f
GrowsText len p n (Ok (text.Argument k end a e)) = CommandSpans len p end a e

-- what a function requires that writes text from p on: room for twice what is left to read
pub record ReadyText (s : List ℕ) (p n : ℕ) (o : List ℕ) : Type 0 where
  pub place : p ≤ length s
  pub room : n + 2 * length s ≤ length o + 2 * p
