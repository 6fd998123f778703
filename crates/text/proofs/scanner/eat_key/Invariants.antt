-- The invariants of `text::scanner::eat_key`.
use Prim.Native.Nat.{◌-◌}
use mathlib.Core.Path.{◌≡◌}
use lib.ListN.{length}
use Rattle.text.specs.Scan.{skip}
use Rattle.text.specs.Class.{is_key}
use Rattle.text.proofs.scanner.eat_key.Given as goal

abbrev pub invariant-loop-i : goal.invariant-loop-i
invariant-loop-i l = skip is_key l.s l.at ≡ skip is_key l.s l.i

abbrev pub decreases-loop-i : goal.decreases-loop-i
decreases-loop-i l = length l.s - l.i
