-- `compose::find` meets its contract: it looks at the row where the search leads.
-- Assumes nothing.
use Rattle.compose.proofs.lists.Halving.{no_row, its-row, other_row}
use Rattle.compose.proofs.find.Goals as goal

pub returns-then-t-k : goal.returns-then-t-k
returns-then-t-k c =
    let a = c.args in
    no_row a.t.now a.letter a.mark c.place-k.result c.place-k.ensures.0 c.if-t-k.true

pub returns-then-t-i : goal.returns-then-t-i
returns-then-t-i c =
    let a = c.args in
    its-row a.t.now a.letter a.mark c.place-k.result c.place-k.ensures.0 c.if-t-k.false c.if-t-i.true

pub returns-else-t-i : goal.returns-else-t-i
returns-else-t-i c =
    let a = c.args in
    other_row a.t.now a.letter a.mark c.place-k.result c.place-k.ensures.0 c.if-t-k.false c.if-t-i.false
