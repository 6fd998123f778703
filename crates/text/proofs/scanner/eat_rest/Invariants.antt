-- The invariants of `text::scanner::eat_rest`.
use Prim.Native.Nat.{◌-◌}
use mathlib.Core.Path.{◌≡◌}
use lib.ListN.{length}
use Rattle.text.specs.Scan.{skip}
use Rattle.text.specs.Inner.{wants}
use Rattle.text.proofs.scanner.eat_rest.Given as goal

abbrev pub invariant-loop-i : goal.invariant-loop-i
invariant-loop-i l = skip (wants l.t l.want) l.s l.at ≡ skip (wants l.t l.want) l.s l.i

abbrev pub decreases-loop-i : goal.decreases-loop-i
decreases-loop-i l = length l.s - l.i
