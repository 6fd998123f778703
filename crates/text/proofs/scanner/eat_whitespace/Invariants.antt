-- The invariants of `text::scanner::eat_whitespace`.
use Prim.Native.Nat.{◌-◌}
use mathlib.Core.Path.{◌≡◌}
use lib.ListN.{length}
use Rattle.text.specs.Scan.{skip}
use Rattle.text.specs.Class.{is_whitespace}
use Rattle.text.proofs.scanner.eat_whitespace.Given as goal

abbrev pub invariant-loop-i : goal.invariant-loop-i
invariant-loop-i l = skip is_whitespace l.s l.at ≡ skip is_whitespace l.s l.i

abbrev pub decreases-loop-i : goal.decreases-loop-i
decreases-loop-i l = length l.s - l.i
