-- `resolve::lent::are_lent` meets its contract. Assumes nothing.
use Rattle.std.proofs.Common.{sym, ap, ◌∙◌}
use Rattle.std.specs.Prelude.{is_err}
use Rattle.resolve.proofs.lending.CheckWays.{lent-bad, lent-good}
use Rattle.resolve.proofs.lent.are_lent.Goals as goal

pub returns-then-is_err : goal.returns-then-is_err
returns-then-is_err c =
    let a = c.args in
    lent-bad a.file.now a.rows.now a.months.now a.words.now (ap is_err (sym c.check.ensures) ∙ sym c.is_err.ensures.value ∙ c.if-is_err.true)

pub returns : goal.returns
returns c =
    let a = c.args in
    rw (c.every_span.ensures, c.are_months.ensures)
    (lent-good a.file.now a.rows.now a.months.now a.words.now (ap is_err (sym c.check.ensures) ∙ sym c.is_err.ensures.value ∙ c.if-is_err.false))
