-- `turn::turn::past_simple` meets its contract. The invariant: the run goes up to `i`. Assumes nothing.
use Rattle.std.proofs.Common.{sym, ◌∙◌}
use Rattle.turn.proofs.ways.SimpleBytes.{plain-on}
use Rattle.turn.proofs.turn.past_simple.Goals as goal

pub loop-i-preserved : goal.loop-i-preserved
loop-i-preserved c = plain-on _ _ _ c.loop-i.invariant c.loop-i-test.true (sym c.is_simple.ensures ∙ c.if-not-is_simple.false) c.if-s-i.false
