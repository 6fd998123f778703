-- `text::utf8::is_boundary` meets its contract. Assumes nothing.
use Rattle.text.proofs.general.Places.{boundary-in, boundary-out}
use Rattle.text.proofs.utf8.is_boundary.Goals as goal

pub returns-then-n-s : goal.returns-then-n-s
returns-then-n-s c =
    let a = c.args in
    let if1 = c.if-n-s in
    rw c.is_tail.ensures (boundary-in a.s.now a.n if1.true)

pub returns : goal.returns
returns c = let a = c.args in boundary-out a.s.now a.n c.if-n-s.false
