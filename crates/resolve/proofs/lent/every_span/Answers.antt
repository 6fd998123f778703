-- `resolve::lent::every_span` meets its contract. Assumes nothing.
use Rattle.std.proofs.Common.{◌∙◌, sym, refl}
use Rattle.row.specs.Row.{Row}
use Rattle.resolve.specs.OneLiteral.{is_span}
use Rattle.resolve.proofs.Fours.{fours}
use Rattle.resolve.proofs.lending.CheckWays.{every-pass, every-not, every-end}
use Rattle.resolve.proofs.lent.every_span.Goals as goal

pub loop-start-init : goal.loop-start-init
loop-start-init c = refl

pub returns-then-not-is_span : goal.returns-then-not-is_span
returns-then-not-is_span c =
    let l = c.loop-start in
    let e = fours.fours-next c.args.rows.now c.as_chunks.ensures.front l.start-index c.loop-start-test.true in
    sym (l.invariant ∙ every-not (λ (r : Row). is_span c.args.file.now r.start r.end) e (sym c.is_span.ensures ∙ c.if-not-is_span.true))

pub loop-start-preserved : goal.loop-start-preserved
loop-start-preserved c =
    let l = c.loop-start in
    let e = fours.fours-next c.args.rows.now c.as_chunks.ensures.front l.start-index c.loop-start-test.true in
    l.invariant ∙ every-pass (λ (r : Row). is_span c.args.file.now r.start r.end) e (sym c.is_span.ensures ∙ c.if-not-is_span.false)

pub returns : goal.returns
returns c =
    let l = c.loop-start in
    sym (l.invariant ∙ every-end (λ (r : Row). is_span c.args.file.now r.start r.end)
    (fours.fours_end c.args.rows.now c.as_chunks.ensures.front l.start-index c.loop-start-test.false))
