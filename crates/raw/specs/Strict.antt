-- What the definitions of `Reader` and `Grammar` settle: theorems of strict reading, the proof of which is `strict-reading` of
-- proofs/Strict.antt. Texts are compared by what they show: `ShowsSame`.
-- Assumes nothing.
use Rattle.std.specs.Prelude.{ℕ, ◌+◌, ◌≤◌, ◌<◌, max, ◌≡◌, ◌↔◌, Bool, true, false, ◌||◌, List, [], ◌∷◌, ◌++◌, length, get_or, Option, Some, None}
use Rattle.text.specs.Range.{within}
use Rattle.text.specs.Utf8.{tail, decode_at, is_boundary}
use Rattle.text.specs.Class.{is_id_start, holds_of}
use Rattle.text.specs.Scan.{see}
use Rattle.text.specs.declared.class.Test.TheVariants as test
use Rattle.text.specs.declared.utf8.Decoded.TheVariants as decoded
use Rattle.row.specs.declared.fault.Fault.{Fault}
use Rattle.row.specs.Fault.{number_of, fault_at}
use Rattle.row.specs.Row.{Row, moved}
use Rattle.raw.specs.Reader.{OutOf, Out, ok, again, bad, after}
use Rattle.raw.specs.Grammar.{is, white, comment, entry, file_turn, file}
use Rattle.raw.specs.Read.{strict}
use Rattle.row.specs.Rules.{is_rows, clean}

-- ---- the words

-- the texts show the same from p up to e
abbrev pub ShowsSame : List ℕ → List ℕ → ℕ → ℕ → Type 0
ShowsSame s t p e = (i : ℕ) → p ≤ i → i < e → see s i ≡ see t i

-- the answer ends at q
abbrev pub Stops : {P : Type 0} → OutOf P → ℕ → Type 0
Stops (ok q' rs) q = q' ≡ q
Stops (again q' rs a) q = q' ≡ q
Stops (bad f) q = ⊥

-- a refusal, and an answer, d places on
abbrev pub fault_up : ℕ → Fault → Fault
fault_up d f = record { reason = f.reason; start = f.start + d; end = f.end + d }

abbrev pub shifted : ℕ → Out → Out
shifted d (ok q rs) = ok (q + d) (moved d rs)
shifted d (again q rs a) = again (q + d) (moved d rs) a
shifted d (bad f) = bad (fault_up d f)

-- t does not begin inside a character of the text before it
abbrev pub Fresh : List ℕ → Type 0
Fresh t = within tail (get_or t 0 256) ≡ false

-- a value may begin with what is seen: a digit, a name's first character, a brace or a quote
abbrev pub begins_value : Option (ℕ × ℕ) → Bool
begins_value None = false
begins_value (Some (c, n)) = holds_of test.Digit c || is_id_start c || is 0x7B c || is 0x22 c

-- the starts never fall, from n on
unfoldable pub Rising : ℕ → List Row → Type 0
Rising n [] = Unit {0}
Rising n (r ∷ rs) = (n ≤ r.start) × Rising r.start rs

-- a row's span lies in the text, and across no character
pub record Span (s : List ℕ) (r : Row) : Type 0 where
  pub order : r.start ≤ r.end
  pub inside : r.end ≤ length s
  pub starts : is_boundary s r.start ≡ true
  pub ends : is_boundary s r.end ≡ true

unfoldable pub Spans : List ℕ → List Row → Type 0
Spans s [] = Unit {0}
Spans s (r ∷ rs) = Span s r × Spans s rs

-- what an accepted text gives
pub record Accepted (s : List ℕ) (q : ℕ) (rs : List Row) : Type 0 where
  -- the text is read to its end
  pub end : q ≡ length s
  -- the rows pass 01's rules, without damage; their starts never fall, and their spans lie on characters of the text
  pub rules : is_rows rs ≡ true
  pub undamaged : clean rs ≡ true
  pub rising : Rising 0 rs
  pub spans : Spans s rs
  -- the rows are at most as many as the bytes
  pub few : length rs ≤ length s

-- [02:2] "the Rust's start, and the end so widened"
pub record Culprit (s : List ℕ) (f : Fault) : Type 0 where
  -- the start is the Rust's: there the grammar refuses, for this reason
  pub start : file s 0 ≡ bad (fault_at f.reason f.start)
  -- the end is the end of the character there, and equals the start exactly if the text ends there
  pub character : f.start < length s → (c : ℕ) × (decode_at s f.start ≡ decoded.Char c f.end)
  pub empty : (f.end ≡ f.start) ↔ (f.start ≡ length s)
  -- both are character boundaries
  pub starts : is_boundary s f.start ≡ true
  pub ends : is_boundary s f.end ≡ true

-- what a refused text gives: 01's numbers 1 to 10, at a place of the text: 1 and 2 at an empty one, and 3 to 10 over their culprit
pub record Refusal (s : List ℕ) (f : Fault) : Type 0 where
  pub number : (1 ≤ number_of f.reason) × (number_of f.reason ≤ 10)
  pub place : (f.start ≤ f.end) × (f.end ≤ length s)
  pub empty : number_of f.reason ≤ 2 → f.end ≡ f.start
  pub culprit : 3 ≤ number_of f.reason → Culprit s f
  -- 3 is at the end of the text, or before it where no value begins
  pub early : number_of f.reason ≡ 3 → begins_value (see s f.start) ≡ false

pub record Strict : Type 0 where
  -- the fuel of a loop never runs out: a file is its first item, and then the file
  pub turns : (s : List ℕ) (p : ℕ) → file s p ≡ after (file_turn 0 s p) (λ a q. file s q)
  -- an item after which the file goes on has eaten something, and ends inside the text
  pub ahead : (s : List ℕ) (p q a : ℕ) (rs : List Row) → file_turn 0 s p ≡ again q rs a → (p < q) × (q ≤ max p (length s))
  -- how an entry is read depends only on what it ate: in every text that shows the same there, it is read the same. For white space and for a
  -- comment it depends also on the character after them
  pub entries : (s t : List ℕ) (p q : ℕ) → Stops (entry s p) q → q ≤ length t → ShowsSame s t p q → entry t p ≡ entry s p
  pub whites : (s t : List ℕ) (p q : ℕ) → Stops (white s p) q → q ≤ length t → ShowsSame s t p (q + 1) → white t p ≡ white s p
  pub comments : (s t : List ℕ) (p q : ℕ) → Stops (comment s p) q → q ≤ length t → ShowsSame s t p (q + 1) → comment t p ≡ comment s p
  -- white space, an item and a file that stand behind another text are read as by themselves, moved
  pub moves-white : (a s : List ℕ) (p : ℕ) → white (a ++ s) (p + length a) ≡ shifted (length a) (white s p)
  pub moves-turn : (a s : List ℕ) (p : ℕ) → file_turn 0 (a ++ s) (p + length a) ≡ shifted (length a) (file_turn 0 s p)
  pub moves : (a s : List ℕ) (p : ℕ) → file (a ++ s) (p + length a) ≡ shifted (length a) (file s p)
  -- strict reading accepts or refuses
  pub accepts : (s : List ℕ) (q : ℕ) (rs : List Row) → strict s ≡ ok q rs → Accepted s q rs
  pub refuses : (s : List ℕ) (f : Fault) → strict s ≡ bad f → Refusal s f
  pub decides : (s : List ℕ) (q a : ℕ) (rs : List Row) → strict s ≡ again q rs a → ⊥
