-- `turn::turn::past_rare` meets its contract. Assumes nothing.
use Rattle.std.proofs.Common.{sym, ◌∙◌}
use Rattle.turn.proofs.ways.TextTurns.{steps-none, steps-blank, steps-wide}
use Rattle.turn.proofs.turn.past_rare.Goals as goal

pub returns-then-after-at : goal.returns-then-after-at
returns-then-after-at c =
    let a = c.args in
    steps-blank a.s.now a.at c.eat_whitespace-after.result c.requires c.if-s-at-eq32.true c.eat_whitespace-after.ensures.0 c.if-after-at.true

pub returns-then-s-at-eq32 : goal.returns-then-s-at-eq32
returns-then-s-at-eq32 c = steps-none c.args.s.now c.args.at c.requires

pub returns-then-s-at-lt128 : goal.returns-then-s-at-lt128
returns-then-s-at-lt128 c = steps-none c.args.s.now c.args.at c.requires

pub returns-then-is_white : goal.returns-then-is_white
returns-then-is_white c = steps-none c.args.s.now c.args.at c.requires

pub returns-in-None : goal.returns-in-None
returns-in-None c = steps-none c.args.s.now c.args.at c.requires

pub returns-else-is_white : goal.returns-else-is_white
returns-else-is_white c =
    let a = c.args in
    steps-wide a.s.now a.at _ _ c.if-s-at-lt128.false (sym c.peek.ensures.0 ∙ c.in-Some.is)
    (sym c.is_white.ensures ∙ c.if-is_white.false)
