-- `turn::turn::words` meets its contract. Assumes nothing.
use Rattle.std.proofs.Common.{sym, ◌∙◌}
use Rattle.turn.proofs.ways.SimpleBytes.{words-none, words-all, words-but}
use Rattle.turn.proofs.turn.words.Goals as goal

pub returns-then-s-at : goal.returns-then-s-at
returns-then-s-at c = words-none _ _

pub returns-then-not-is_simple : goal.returns-then-not-is_simple
returns-then-not-is_simple c = words-none _ _

pub returns-then-s-end-eq32 : goal.returns-then-s-end-eq32
returns-then-s-end-eq32 c = words-but _ _ _ c.if-s-at.false (sym c.is_simple.ensures ∙ c.if-not-is_simple.false) c.past_simple-end.ensures c.if-s-end-eq32.true

pub returns : goal.returns
returns c = words-all _ _ _ c.if-s-at.false (sym c.is_simple.ensures ∙ c.if-not-is_simple.false) c.past_simple-end.ensures c.if-s-end-eq32.false
