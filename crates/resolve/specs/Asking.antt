-- For the crates above: what follows from the checks that a call makes first, of its file, of spans and rows and of its scratch, and which
-- refusals they give. The proof is `asking` of proofs/Asking.antt.
-- Assumes nothing.
use Rattle.resolve.specs.declared.answer.Chunks.{Chunks}
use Rattle.std.specs.Prelude.{ℕ, ◌+◌, ◌-◌, ◌/◌, ◌≤◌, ◌<◌, ◌≡◌, Bool, true, false, not, List, length, take, drop, Result, Ok, Err, ⊤}
use Rattle.text.specs.Scan.{part}
use Rattle.row.specs.declared.fault.Fault.{Fault}
use Rattle.row.specs.declared.fault.Reason.TheVariants.{NoRoom, BadRows}
use Rattle.row.specs.Fault.{nowhere}
use Rattle.row.specs.Limits.{most_bytes, least_scratch}
use Rattle.row.specs.Numbers.{rows_of}
use Rattle.resolve.specs.Resolves.{Value, Writes, checked_file, asked}
use Rattle.resolve.specs.OneLiteral.{is_span}
use Rattle.resolve.specs.Checks.{is_value}
use Rattle.resolve.specs.Progress.{ReadyTables}

pub record Asking : Type 0 where
  -- a file that passes the check is not too long
  pub file-small : (file : List ℕ) (r : Result ⊤ Fault) → r ≡ checked_file file → r ≡ Ok tt → length file ≤ most_bytes
  -- a span lies in its file; its bytes as the code cuts them out; and these end inside 01's limit
  pub span-ends : (file : List ℕ) (a e : ℕ) → is_span file a e ≡ true → (a ≤ e) × (e ≤ length file)
  pub cut-part : (file : List ℕ) (a e : ℕ) → a ≤ e → e ≤ length file → take (e - a) (drop a file) ≡ part file a e
  pub cut-room : (file : List ℕ) (a e : ℕ) → a ≤ e → e ≤ length file → length file ≤ most_bytes → a + length (take (e - a) (drop a file)) ≤ most_bytes
  -- a row that is not there is no value
  pub value_none : (rows : List ℕ) (which : ℕ) → length rows / 4 ≤ which → false ≡ is_value (drop which (rows_of rows))
  -- a scratch as long as one that is ready is ready
  pub ready_on : (w by_name by_mark w' : List ℕ) → ReadyTables w by_name by_mark → length w' ≡ length w → ReadyTables w' by_name by_mark
  -- the refusals of a call in their order, where `good` says whether its places or rows are right; and what it writes where none is given
  pub asked-file : (file : List ℕ) (good : Bool) (w : ℕ) (value : Value) (b t : List ℕ) (r : Result ⊤ Fault) → r ≡ checked_file file → (f : Fault)
      → r ≡ Err f → Writes (asked file good w value) b t (Err f) b t
  pub asked-bad : (file : List ℕ) (good : Bool) (w : ℕ) (value : Value) (b t : List ℕ) (r : Result ⊤ Fault) → r ≡ checked_file file → r ≡ Ok tt
      → (x : Bool) → x ≡ good → not x ≡ true → Writes (asked file good w value) b t (Err (nowhere BadRows)) b t
  pub asked-scratch : (file : List ℕ) (good : Bool) (w : ℕ) (value : Value) (b t : List ℕ) (r : Result ⊤ Fault) → r ≡ checked_file file
      → r ≡ Ok tt → (x : Bool) → x ≡ good → not x ≡ false → w < least_scratch
      → Writes (asked file good w value) b t (Err (nowhere NoRoom)) b t
  pub asked-all : (file : List ℕ) (good : Bool) (w : ℕ) (value : Value) (b t : List ℕ) (r : Result ⊤ Fault) → r ≡ checked_file file → r ≡ Ok tt
      → (x : Bool) → x ≡ good → not x ≡ false → least_scratch ≤ w → (u : Result Chunks Fault) (b' t' : List ℕ) → Writes value b t u b' t'
      → Writes (asked file good w value) b t u b' t'
