-- `values::months::find_month` meets its contract. Assumes nothing.
use Rattle.std.proofs.Common.{◌∙◌, sym, arith}
use Rattle.resolve.proofs.Fours.{fours}
use Rattle.values.proofs.naming.MonthSearch.{seek-starts, seek-word, seek_hit, seek-on, seek-none}
use Rattle.values.proofs.months.find_month.Goals as goal

pub loop-from-init : goal.loop-from-init
loop-from-init c = let a = c.args in seek-starts a.months.now a.words.now a.name.now c.requires

pub slice_bounds-equal-count : goal.slice_bounds-equal-count
slice_bounds-equal-count c =
    let a = c.args in
    let l = c.loop-from in
    let e = fours.fours-next a.months.now c.as_chunks.ensures.front l.from-index c.loop-from-test.true in
    (seek-word a.months.now a.words.now a.name.now l.invariant e).0

pub slice_bounds-equal-start : goal.slice_bounds-equal-start
slice_bounds-equal-start c =
    let a = c.args in
    let l = c.loop-from in
    let e = fours.fours-next a.months.now c.as_chunks.ensures.front l.from-index c.loop-from-test.true in
    let w = seek-word a.months.now a.words.now a.name.now l.invariant e in
    omega (arith, w.0, w.1)

pub slice_bounds-equal-end : goal.slice_bounds-equal-end
slice_bounds-equal-end c =
    let a = c.args in
    let l = c.loop-from in
    let e = fours.fours-next a.months.now c.as_chunks.ensures.front l.from-index c.loop-from-test.true in
    let w = seek-word a.months.now a.words.now a.name.now l.invariant e in
    omega (arith, w.0, w.1)

pub returns-then-equal : goal.returns-then-equal
returns-then-equal c =
    let a = c.args in
    let l = c.loop-from in
    let e = fours.fours-next a.months.now c.as_chunks.ensures.front l.from-index c.loop-from-test.true in
    seek_hit a.months.now a.words.now a.name.now l.invariant e (sym c.equal.ensures ∙ c.if-equal.true)

pub loop-from-preserved : goal.loop-from-preserved
loop-from-preserved c =
    let a = c.args in
    let l = c.loop-from in
    let e = fours.fours-next a.months.now c.as_chunks.ensures.front l.from-index c.loop-from-test.true in
    seek-on a.months.now a.words.now a.name.now l.invariant e (sym c.equal.ensures ∙ c.if-equal.false)

pub returns : goal.returns
returns c =
    let a = c.args in
    let l = c.loop-from in
    seek-none a.months.now a.words.now a.name.now l.invariant
    (fours.fours_end a.months.now c.as_chunks.ensures.front l.from-index c.loop-from-test.false)
