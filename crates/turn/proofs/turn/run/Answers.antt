-- `turn::turn::run` meets its contract. The invariant: every turn before `i` copies what stands there. Assumes nothing.
use Rattle.turn.proofs.ways.TextTurns.{runs_none, runs_on, runs-words}
use Rattle.turn.proofs.turn.run.Goals as goal

pub loop-at-init : goal.loop-at-init
loop-at-init c = runs_none c.args.s.now c.args.at

pub returns-then-s-end : goal.returns-then-s-end
returns-then-s-end c = runs-words _ _ _ _ c.loop-at.invariant c.words-end.ensures

pub returns-then-i-end : goal.returns-then-i-end
returns-then-i-end c = runs-words _ _ _ _ c.loop-at.invariant c.words-end.ensures

pub loop-at-preserved : goal.loop-at-preserved
loop-at-preserved c =
    let next = c.past_rare-i.ensures in
    runs_on _ _ _ _ (runs-words _ _ _ _ c.loop-at.invariant c.words-end.ensures) c.if-i-end.false next.to (next.copies c.if-i-end.false)
