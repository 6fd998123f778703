-- `turn::turn::is_escape` meets its contract. Assumes nothing.
use Rattle.std.proofs.Common.{true, eqb}
use Rattle.chunk.specs.Format.{is_escapable}
use Rattle.turn.proofs.ways.TestChains.{escape-tests}
use Rattle.turn.proofs.turn.is_escape.Goals as goal

pub returns : goal.returns
returns c =
    let a = c.args in
    rw c.is_escapable.ensures (escape-tests (eqb a.c 0x5E) (eqb a.c 0x7E) (is_escapable a.c a.verb true))
