-- `turn::turn::is_white` meets its contract. Assumes nothing.
use Rattle.std.proofs.Common.{sym}
use Rattle.turn.proofs.ways.TestChains.{not_white}
use Rattle.turn.proofs.turn.is_white.Goals as goal

pub returns-then-c : goal.returns-then-c
returns-then-c c = sym (not_white c.args.c c.if-c.true)
