-- `resolve::lent::are_months` meets its contract. Assumes nothing.
use Rattle.std.proofs.Common.{◌∙◌, sym}
use Rattle.resolve.specs.Checks.{is_month}
use Rattle.resolve.proofs.Fours.{fours}
use Rattle.resolve.proofs.lending.CheckWays.{every-pass, every-not, every-end, count-not, count-whole}
use Rattle.resolve.proofs.lent.are_months.Goals as goal

pub returns-then-months-ne0 : goal.returns-then-months-ne0
returns-then-months-ne0 c = let a = c.args in count-not a.months.now a.words.now c.if-months-ne0.true

pub loop-from-init : goal.loop-from-init
loop-from-init c = let a = c.args in count-whole a.months.now a.words.now c.if-months-ne0.false

pub returns-then-not-word-text : goal.returns-then-not-word-text
returns-then-not-word-text c =
    let l = c.loop-from in
    let e = fours.fours-next c.args.months.now c.as_chunks.ensures.front l.from-index c.loop-from-test.true in
    sym (l.invariant ∙ every-not (is_month c.args.words.now) e (rw (c.is_text-word.ensures, c.is_text-text.ensures) at c.if-not-word-text.true))

pub loop-from-preserved : goal.loop-from-preserved
loop-from-preserved c =
    let l = c.loop-from in
    let e = fours.fours-next c.args.months.now c.as_chunks.ensures.front l.from-index c.loop-from-test.true in
    l.invariant ∙ every-pass (is_month c.args.words.now) e (rw (c.is_text-word.ensures, c.is_text-text.ensures) at c.if-not-word-text.false)

pub returns : goal.returns
returns c =
    let l = c.loop-from in
    sym (l.invariant ∙ every-end (is_month c.args.words.now)
    (fours.fours_end c.args.months.now c.as_chunks.ensures.front l.from-index c.loop-from-test.false))
