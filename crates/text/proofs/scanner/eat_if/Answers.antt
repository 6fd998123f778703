-- `text::scanner::eat_if` meets its contract. Assumes nothing.
use Rattle.text.specs.Class.{holds_of}
use Rattle.text.proofs.scanning.Skip.{passed, bit-end, bit-on, bit-off}
use Rattle.text.proofs.scanner.eat_if.Goals as goal

pub returns-then-s-at : goal.returns-then-s-at
returns-then-s-at c = let a = c.args in bit-end a.t a.s.now a.at c.if-s-at.true

pub returns-then-b-ge128 : goal.returns-then-b-ge128
returns-then-b-ge128 c = let a = c.args in passed (holds_of a.t) a.s.now a.at c.eat_wide.ensures

pub returns-then-has : goal.returns-then-has
returns-then-has c =
    let a = c.args in
    bit-on a.t c.ascii-masks.result c.ascii-masks.ensures a.s.now a.at c.if-s-at.false c.if-b-ge128.false c.has.ensures c.if-has.true

pub returns : goal.returns
returns c =
    let a = c.args in
    bit-off a.t c.ascii-masks.result c.ascii-masks.ensures a.s.now a.at c.if-s-at.false c.if-b-ge128.false c.has.ensures c.if-has.false
