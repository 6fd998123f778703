-- `text::scanner::eat_run` meets its contract. Assumes nothing.
use mathlib.Core.Path.{sym, ◌∙◌}
use Rattle.text.specs.Inner.{wants}
use Rattle.text.proofs.scanning.Skip.{skip-end, ran_on, ran-stop, ran}
use Rattle.text.proofs.scanner.eat_run.Goals as goal

pub returns-then-s-i : goal.returns-then-s-i
returns-then-s-i c =
    let a = c.args in
    let ascii = c.ascii-masks in
    let ascii_run = c.ascii_run-i in
    let p = wants a.t a.want in
    let e = ran_on a.t a.want ascii.result ascii.ensures a.s.now a.at ascii_run.ensures in
    ran p a.s.now a.at (sym (e ∙ skip-end p a.s.now _ c.if-s-i.true))

pub returns-then-s-i-lt128 : goal.returns-then-s-i-lt128
returns-then-s-i-lt128 c =
    let a = c.args in
    ran (wants a.t a.want) a.s.now a.at
    (sym (ran-stop a.t a.want c.ascii-masks.result c.ascii-masks.ensures a.s.now a.at c.ascii_run-i.ensures c.if-s-i.false c.if-s-i-lt128.true))

pub returns : goal.returns
returns c =
    let a = c.args in
    let p = wants a.t a.want in
    let e = ran_on a.t a.want c.ascii-masks.result c.ascii-masks.ensures a.s.now a.at c.ascii_run-i.ensures in
    ran p a.s.now a.at (c.eat_rest.ensures.0 ∙ sym e)
