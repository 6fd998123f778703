-- The proof of specs/Asking.antt: `asking`.
-- Assumes nothing.
use Prim.Native.Nat.{ℕ}
use native.Mathlib.Omega.{arith}
use mathlib.Core.Path.{◌≡◌}
use mathlib.Core.List.{List}
use lib.ListN.{length}
use Rattle.resolve.specs.Progress.{ReadyTables}
use Rattle.resolve.specs.Asking.{Asking}
use Rattle.resolve.proofs.lending.CheckWays as check
use Rattle.resolve.proofs.ways.AskedWays as ways

ready_on : (w by_name by_mark w' : List ℕ) → ReadyTables w by_name by_mark → length w' ≡ length w → ReadyTables w' by_name by_mark
ready_on w by_name by_mark w' h e = record { scratch = omega (arith, h.scratch, e); names = h.names; marks = h.marks }

pub asking : Asking
asking = record {
  file-small = ways.file-small;
  span-ends = ways.span-ends;
  cut-part = ways.cut-part;
  cut-room = ways.cut-room;
  value_none = check.value_none;
  ready_on = ready_on;
  asked-file = ways.asked-file;
  asked-bad = ways.asked-bad;
  asked-scratch = ways.asked-scratch;
  asked-all = ways.asked-all;
}
