-- `raw::entry::lead` meets its contract. Assumes nothing.
use Rattle.std.proofs.Common.{length, arith}
use Rattle.raw.proofs.contracts.Bounds.{step-exit}
use Rattle.raw.proofs.ways.EntryWays.{lead-off, lead-on}
use Rattle.raw.proofs.entry.lead.Goals as goal

pub returns-in_err-p2 : goal.returns-in_err-p2
returns-in_err-p2 c =
    let a = c.args in
    step-exit (length a.s.now) 1 a.at (lead-off a.s.now a.at c.eat_whitespace-p1.ensures.0 c.in_err-p2.ensures.0)
    c.from_residual.result c.from_residual.ensures.1

pub returns : goal.returns
returns c =
    let a = c.args in
    let k = c.in_ok-p2.ensures.1 in
    (lead-on a.s.now a.at c.eat_whitespace-p1.ensures.0 c.in_ok-p2.ensures.0 c.eat_whitespace.ensures.0, (omega arith, omega arith))
