-- `text::utf8::goes_on` meets its contract. Assumes nothing.
use native.Mathlib.Omega.{arith}
use Rattle.text.proofs.sequences.FirstOctet.{on-two, on-three, on-four}
use Rattle.text.proofs.utf8.goes_on.Goals as goal

pub returns-then-n-eq2 : goal.returns-then-n-eq2
returns-then-n-eq2 c =
    let a = c.args in
    let goes-second = c.goes_second-two in
    on-two a.s.now a.at a.a a.n (omega arith) goes-second.ensures c.if-n-eq2.true

pub returns-then-n-eq3 : goal.returns-then-n-eq3
returns-then-n-eq3 c =
    let a = c.args in
    on-three a.s.now a.at a.a a.n (omega arith) c.goes_second-two.ensures c.is_tail.ensures c.if-n-eq3.true

pub returns : goal.returns
returns c =
    let a = c.args in
    on-four a.s.now a.at a.a a.n (omega arith) c.goes_second-two.ensures c.is_tail.ensures c.if-n-eq2.false c.if-n-eq3.false (omega arith)
    (omega arith) c.is_tail-2.ensures
