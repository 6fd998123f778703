-- Strict reading of a file, and the contract of `read`.
--     culprit, underlined     a refusal over the character that it stands at, and an answer with its refusal so
--     strict                  strict reading: the length, UTF-8, and then the grammar
--     Read                    the contract
-- Assumes nothing.
use Rattle.text.specs.declared.utf8.IllFormed.{IllFormed}
use Rattle.std.specs.Prelude.{ℕ, ◌*◌, ◌/◌, ◌≡◌, cond, List, ◌++◌, length, drop, leb, Result, Ok, Err, ⊤}
use Rattle.text.specs.Utf8.{validity_of}
use Rattle.text.specs.Scan.{see, next_of}
use Rattle.row.specs.declared.fault.Fault.{Fault}
use Rattle.row.specs.declared.fault.Reason.TheVariants.{TooLong, NotUtf8, NoRoom}
use Rattle.row.specs.Fault.{fault_at, nowhere}
use Rattle.row.specs.Limits.{most_bytes}
use Rattle.row.specs.Row.{flat}
use Rattle.raw.specs.Reader.{Out, ok, again, bad}
use Rattle.raw.specs.Grammar.{file}

-- [02:2] "The scanner shall report the offending character's whole span; at the end of the file the place stays empty": the refusal f of the
-- text s, from where it starts to the end of the character that is seen there
abbrev pub culprit : List ℕ → Fault → Fault
culprit s f = record { reason = f.reason; start = f.start; end = next_of f.start (see s f.start) }

abbrev pub underlined : List ℕ → Out → Out
underlined s (ok q rs) = ok q rs
underlined s (again q rs a) = again q rs a
underlined s (bad f) = bad (culprit s f)

-- the grammar refuses where it stands; here the place is widened
abbrev pub checked : List ℕ → Result ⊤ IllFormed → Out
checked s (Ok tt) = underlined s (file s 0)
checked s (Err n) = bad (fault_at NotUtf8 n.at)

-- [01:Numbers a caller can get] 1, then 2, then 3 to 10 as met
unfoldable pub strict : List ℕ → Out
strict s = cond (leb (length s) most_bytes) (checked s (validity_of s)) (bad (nowhere TooLong))

-- the answer over so many lent numbers: the reading's, but 16 exactly if an answer exists and needs more rows than are lent
abbrev pub reading_out : Out → ℕ → Result ℕ Fault
reading_out (ok q rs) size = cond (leb (length rs) (size / 4)) (Ok (length rs)) (Err (nowhere NoRoom))
reading_out (again q rs a) size = cond (leb (length rs) (size / 4)) (Ok (length rs)) (Err (nowhere NoRoom))
reading_out (bad f) size = Err f

-- the lent numbers afterwards: the rows, and behind them what they held there; or all as they were
abbrev pub left_out : Out → List ℕ → List ℕ
left_out (ok q rs) b = cond (leb (length rs) (length b / 4)) (flat rs ++ drop (length rs * 4) b) b
left_out (again q rs a) b = cond (leb (length rs) (length b / 4)) (flat rs ++ drop (length rs * 4) b) b
left_out (bad f) b = b

-- `read` of the file s over the lent numbers b answers r and leaves b'
pub record Read (s b : List ℕ) (r : Result ℕ Fault) (b' : List ℕ) : Type 0 where
  pub answer : r ≡ reading_out (strict s) (length b)
  pub rows : b' ≡ left_out (strict s) b
