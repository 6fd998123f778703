-- `raw::value::string` meets its contract. Assumes nothing.
use Rattle.std.proofs.Common.{sym, ap, ◌∙◌, length, arith}
use Rattle.raw.specs.Says.{step_of}
use Rattle.raw.proofs.contracts.Bounds.{step-exit, onward-from}
use Rattle.raw.proofs.ways.DelimitedLiteral.{string-first-off, string-inside-off, string-rest}
use Rattle.raw.proofs.value.string.Goals as goal

pub returns-in_err-p1 : goal.returns-in_err-p1
returns-in_err-p1 c =
    let a = c.args in
    step-exit (length a.s.now) 2 a.at (string-first-off a.s.now a.at c.in_err-p1.ensures.0) c.from_residual.result c.from_residual.ensures.1

pub returns-in_err-p2 : goal.returns-in_err-p2
returns-in_err-p2 c =
    let a = c.args in
    let r = c.from_residual-in_err-p2 in
    step-exit (length a.s.now) 2 a.at (string-inside-off a.s.now a.at c.in_ok-p1.ensures.0 c.in_err-p2.ensures.0) r.result r.ensures.1

pub returns : goal.returns
returns c =
    let a = c.args in
    let k = c.in_ok-p1.ensures.1 in
    let l = c.in_ok-p2.ensures.1 in (
      c.quote-2.ensures.0 ∙ sym (ap step_of (string-rest a.s.now a.at c.in_ok-p1.ensures.0 c.in_ok-p2.ensures.0)),
      onward-from (length a.s.now) 2 a.at 1 _ c.quote-2.result c.quote-2.ensures.1 (omega arith) (omega arith),
    )
