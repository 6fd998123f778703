-- The invariants of `text::utf8::validate`.
use Rattle.std.specs.Prelude.{Ok}
use Prim.Native.Nat.{◌-◌, ◌≤◌}
use mathlib.Core.Path.{◌≡◌}
use lib.ListN.{length}
use Rattle.text.specs.Utf8.{look_valid, validity_of}
use Rattle.text.specs.Walk.{walk}
use Rattle.text.proofs.utf8.validate.Given as goal

abbrev pub invariant-loop-at : goal.invariant-loop-at
invariant-loop-at l = (l.at ≤ length l.s) × (validity_of l.s ≡ walk look_valid (λ n. (Ok tt)) l.s l.at)

abbrev pub decreases-loop-at : goal.decreases-loop-at
decreases-loop-at l = length l.s - l.at
