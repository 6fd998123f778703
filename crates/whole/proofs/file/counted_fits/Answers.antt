-- `whole::file::counted_fits` meets its contract. Assumes nothing.
use Prim.Native.Nat.{◌+◌}
use native.Mathlib.Omega.{arith}
use mathlib.Core.Path.{refl, ◌∙◌}
use Rattle.values.specs.Uses.{lent_in}
use Rattle.whole.specs.WholeFile.{results}
use Rattle.whole.proofs.counting.RowKinds.{inside, past}
use Rattle.whole.proofs.counting.CountWays.{count-start, few-values, count-flag, count-value, count-other, count-full, count-end, resolving}
use Rattle.whole.proofs.file.counted_fits.Goals as goal

pub loop-i-init : goal.loop-i-init
loop-i-init c =
    let a = c.args in
    let lent = lent_in a.resolver.now in
    let none = c.none-t.ensures in
    (refl, none.1, count-start lent a.flags.now c.none-t.result none.0)

pub flag_at-verbatim-requires : goal.flag_at-verbatim-requires
flag_at-verbatim-requires c =
    let l = c.loop-i in
    let a = c.args in
    let lent = lent_in a.resolver.now in
    let below = inside a.resolver.now.rows.now l.i c.loop-i-test.true in
    count-flag lent a.flags.now l.i l.t l.invariant.2 below c.is_value.result c.is_value.ensures c.if-not-is_value.false
    c.requires.flagged

pub count-w-requires : goal.count-w-requires
count-w-requires c =
    let l = c.loop-i in
    let a = c.args in
    resolving a.resolver.now a.flags.now a.scratch.now
    c.requires l.scratch l.invariant.0 l.i c.loop-i-test.true

pub add_counted-t-requires : goal.add_counted-t-requires
add_counted-t-requires c =
    let l = c.loop-i in
    let a = c.args in
    let lent = lent_in a.resolver.now in
    let few = few-values lent a.flags.now l.i l.t l.invariant.2 in
    (l.invariant.1, c.count-w.ensures.bounded_went, omega (arith, few, c.loop-i-test.true))

pub returns-then-not-fits : goal.returns-then-not-fits
returns-then-not-fits c =
    let l = c.loop-i in
    let a = c.args in
    let lent = lent_in a.resolver.now in
    let below = inside a.resolver.now.rows.now l.i c.loop-i-test.true in
    let counted = count-value lent a.flags.now l.i l.t l.invariant.2 below c.is_value.result c.is_value.ensures c.if-not-is_value.false
    c.flag_at-verbatim.result c.flag_at-verbatim.ensures c.count-w.result c.count-w.ensures.counted c.add_counted-t.result
    c.add_counted-t.ensures.0 in
    count-full lent a.flags.now (l.i + 1) c.add_counted-t.result counted a.answers.now a.chunks.now a.text.now
    c.fits.result c.fits.ensures.0 (c.if-not-fits.true)

pub loop-i-preserved : goal.loop-i-preserved
loop-i-preserved c =
    let l = c.loop-i in
    let a = c.args in
    let lent = lent_in a.resolver.now in
    let below = inside a.resolver.now.rows.now l.i c.loop-i-test.true in (
      c.count-w.auto.scratch ∙ l.invariant.0,
      c.add_counted-t.ensures.1,
      count-value lent a.flags.now l.i l.t l.invariant.2 below c.is_value.result c.is_value.ensures c.if-not-is_value.false
          c.flag_at-verbatim.result c.flag_at-verbatim.ensures c.count-w.result c.count-w.ensures.counted c.add_counted-t.result
          c.add_counted-t.ensures.0,
    )

pub loop-i-preserved-then-not-is_value : goal.loop-i-preserved-then-not-is_value
loop-i-preserved-then-not-is_value c =
    let l = c.loop-i in
    let a = c.args in
    let lent = lent_in a.resolver.now in
    let below = inside a.resolver.now.rows.now l.i c.loop-i-test.true in (
      l.invariant.0,
      l.invariant.1,
      count-other lent a.flags.now l.i l.t l.invariant.2 below c.is_value.result c.is_value.ensures c.if-not-is_value.true,
    )

pub returns : goal.returns
returns c =
    let l = c.loop-i in
    let a = c.args in
    let lent = lent_in a.resolver.now in
    c.fits-2.ensures.0 (results lent a.flags.now)
    (count-end lent a.flags.now l.i l.t l.invariant.2 (past a.resolver.now.rows.now l.i c.loop-i-test.false))
