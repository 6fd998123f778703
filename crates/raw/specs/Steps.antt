-- What the definitions of `Reader` and `Read` settle, step by step: laws on which the crates above rest, beside `Strict`. The proof is `steps`
-- of proofs/Steps.antt. Assumes nothing.
use Rattle.std.specs.Prelude.{ℕ, ◌*◌, ◌/◌, ◌≤◌, ◌≡◌, Bool, List, [], ◌++◌, length, drop, Ok, Err}
use Rattle.text.specs.Utf8.{Octets, validity_of}
use Rattle.row.specs.declared.fault.Fault.{Fault}
use Rattle.row.specs.declared.fault.Reason.TheVariants.{NotUtf8}
use Rattle.row.specs.Fault.{number_of, fault_at}
use Rattle.row.specs.Limits.{most_bytes}
use Rattle.row.specs.Row.{Row, flat}
use Rattle.row.specs.Spans.{SpansIn}
use Rattle.raw.specs.Reader.{Out, ok, bad, more, after, many, scan_turn, scan}
use Rattle.raw.specs.Grammar.{file}
use Rattle.raw.specs.Read.{underlined, strict, reading_out, left_out}
use Rattle.raw.specs.Strict.{Rising}

pub record Steps : Type 0 where
  -- no rows in front of an answer change nothing; a scan is its first turn and then the scan, so that its fuel never runs out
  pub more-none : (o : Out) → more [] o ≡ o
  pub scans : (t : ℕ → Bool) (s : List ℕ) (p : ℕ) → scan {P = Row} t s p ≡ after (scan_turn t 0 s p) (λ a q. many (scan_turn t) a s q)
  -- a text inside the limit is read as a file if it is UTF-8, a refusal over its culprit; else it is refused where it is not; and never as too long
  pub strict-is : (s : List ℕ) → length s ≤ most_bytes → Octets s → strict s ≡ underlined s (file s 0)
  pub strict-ill : (s : List ℕ) → length s ≤ most_bytes → (n : ℕ) → validity_of s ≡ Err (record { at = n }) → strict s ≡ bad (fault_at NotUtf8 n)
  pub strict-bad : (s : List ℕ) → length s ≤ most_bytes → (f : Fault) → strict s ≡ bad f → 2 ≤ number_of f.reason
  -- an accepted text is inside the limit, UTF-8, and an accepted file; the spans of its rows lie in it
  pub strict-ok : (s : List ℕ) (q : ℕ) (rs : List Row) → strict s ≡ ok q rs → (length s ≤ most_bytes) × Octets s × (file s 0 ≡ ok q rs)
  pub strict-spans : (s : List ℕ) (q : ℕ) (rs : List Row) → strict s ≡ ok q rs → SpansIn (length s) rs
  -- starts that never fall from a place on never fall from an earlier one on
  pub rising-less : (n m : ℕ) (rs : List Row) → n ≤ m → Rising m rs → Rising n rs
  -- where a call answers rows, it is their number, there was room, and they stand in front of what was lent
  pub rows_told : (q : ℕ) (rs : List Row) (b : List ℕ) {n : ℕ} → Ok n ≡ reading_out (ok q rs) (length b)
      → (n ≡ length rs) × (length rs ≤ length b / 4) × (left_out (ok q rs) b ≡ flat rs ++ drop (length rs * 4) b)
