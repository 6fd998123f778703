-- `whole::file::surely_fits` meets its contract. Assumes nothing.
use mathlib.Core.Path.{refl, ◌∙◌}
use mathlib.Core.Bool.{false}
use Rattle.text.proofs.general.Tests.{true-not-false}
use Rattle.values.specs.Uses.{lent_in}
use Rattle.whole.specs.WholeFile.{results}
use Rattle.whole.proofs.counting.RowKinds.{past}
use Rattle.whole.proofs.counting.Covering.{cover-start, cover-end}
use Rattle.whole.proofs.ways.ValueWays.{filing-on}
use Rattle.whole.proofs.file.surely_fits.Goals as goal

pub loop-i-init : goal.loop-i-init
loop-i-init c =
    let a = c.args in
    let lent = lent_in a.resolver.now in
    let none = c.none-most.ensures in
    (refl, none.1, cover-start lent a.flags.now c.none-most.result none.0)

pub bound_row-most-requires : goal.bound_row-most-requires
bound_row-most-requires c =
    let l = c.loop-i in
    let a = c.args in (
      filing-on a.resolver.now a.flags.now a.scratch.now
          l.scratch c.requires.0 l.invariant.0,
      c.loop-i-test.true,
      l.invariant.1,
      l.invariant.2,
      c.requires.1,
    )

pub loop-i-preserved : goal.loop-i-preserved
loop-i-preserved c =
    let l = c.loop-i in
    (c.bound_row-most.auto.scratch ∙ l.invariant.0, c.bound_row-most.ensures.1, c.bound_row-most.ensures.0)

pub returns-then-not-fits : goal.returns-then-not-fits
returns-then-not-fits c = λ e. true-not-false false e refl

pub returns : goal.returns
returns c =
    let l = c.loop-i in
    let a = c.args in
    let lent = lent_in a.resolver.now in
    c.fits-2.ensures.1 (results lent a.flags.now)
    (cover-end lent a.flags.now l.i l.most l.invariant.2 (past a.resolver.now.rows.now l.i c.loop-i-test.false))
