-- `text::scanner::eat_byte` meets its contract. Assumes nothing.
use Rattle.text.proofs.scanning.Skip.{single-end, single-on, single-off}
use Rattle.text.proofs.scanner.eat_byte.Goals as goal

pub returns-then-s-at : goal.returns-then-s-at
returns-then-s-at c = let a = c.args in single-end a.x c.requires a.s.now a.at c.if-s-at.true

pub returns-then-s-at-2 : goal.returns-then-s-at-2
returns-then-s-at-2 c =
    let a = c.args in
    let asked = c.requires in
    let if1 = c.if-s-at in
    single-on a.x (asked) a.s.now a.at if1.false c.if-s-at-2.true

pub returns : goal.returns
returns c =
    let a = c.args in
    let asked = c.requires in
    let if1 = c.if-s-at in
    single-off a.x (asked) a.s.now a.at if1.false c.if-s-at-2.false
