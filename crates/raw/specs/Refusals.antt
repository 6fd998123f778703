-- Which refusals strict reading can answer [01:Numbers a caller can get], and their places. The proofs are
-- `own-or-full`, `sixteen` and `refusals` of proofs/Refusals.antt.
-- Assumes nothing.
use Rattle.std.specs.Prelude.{ℕ, ◌/◌, ◌≤◌, ◌<◌, ◌≡◌, ◌↔◌, ◌⊎◌, List, length, Result, Ok, Err}
use Rattle.row.specs.declared.fault.Reason.{Reason}
use Rattle.row.specs.declared.fault.Reason.TheVariants.{TooLong, NotUtf8, NoRoom}
use Rattle.row.specs.declared.fault.Fault.{Fault}
use Rattle.row.specs.Fault.{number_of, fault_at, nowhere, Answered}
use Rattle.raw.specs.Reader.{Out, bad}
use Rattle.raw.specs.Read.{culprit, reading_out, left_out, Read}

-- 1 and 16 at 0..0, 2 at an empty place of the file s, and 3 to 10 over the character at a place of it, which is empty at its end
pub data ReadFault (s : List ℕ) : Fault → Type 0 where
  long : ReadFault s (nowhere TooLong)
  ill : (p : ℕ) → p < length s → ReadFault s (fault_at NotUtf8 p)
  met : (reason : Reason) (p : ℕ) → 3 ≤ number_of reason → number_of reason ≤ 10 → p ≤ length s → ReadFault s (culprit s (fault_at reason p))
  full : ReadFault s (nowhere NoRoom)

-- a refusal that is answered for a reading is the reading's own, or 16
abbrev pub OwnOrFull : Type 0
OwnOrFull = (o : Out) (size : ℕ) (f : Fault) → Err f ≡ reading_out o size → (o ≡ bad f) ⊎ (nowhere NoRoom ≡ f)

-- "then 16 exactly if an answer exists and needs more rows or bytes than a lent output has"
abbrev pub Full : (List ℕ → Result ℕ Fault → List ℕ → Type 0) → Type 0
Full call = (b b' : List ℕ) (r : Result ℕ Fault) → call b r b' → (r ≡ Err (nowhere NoRoom)) ↔ ((n : ℕ) × Answered call (Ok n) × (length b / 4 < n))

-- a call whose answer and rows are those of a reading which by itself never refuses with 16 answers 16 exactly then
abbrev pub Sixteen : Type 1
Sixteen =
    (o : Out) → (o ≡ bad (nowhere NoRoom) → ⊥) → (call : List ℕ → Result ℕ Fault → List ℕ → Type 0) →
    ((b b' : List ℕ) (r : Result ℕ Fault) → call b r b' → r ≡ reading_out o (length b)) →
    ((b : List ℕ) → call b (reading_out o (length b)) (left_out o b)) → Full call

pub record Refusals : Type 0 where
  -- `read` answers no others
  pub reads : (s b b' : List ℕ) (f : Fault) → Read s b (Err f) b' → ReadFault s f
  pub no_room : (s : List ℕ) → Full (Read s)
