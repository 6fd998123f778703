-- `whole::file::write` meets its contract. Assumes nothing.
use native.Mathlib.Omega.{arith}
use mathlib.Core.Path.{refl, ◌∙◌}
use Rattle.values.specs.Uses.{lent_in}
use Rattle.whole.specs.WholeFile.{results}
use Rattle.whole.proofs.values.Fitting.{fits-as}
use Rattle.whole.proofs.ways.ValueWays as ways
use Rattle.whole.proofs.file.write.Goals as goal

pub loop-i-init : goal.loop-i-init
loop-i-init c =
    let a = c.args in (
      ways.wrote-start (lent_in a.resolver.now) a.flags.now c.none-t.result
          a.answers.now a.chunks.now a.text.now c.none-t.ensures.0,
      omega arith,
      refl,
      refl,
      refl,
      refl,
    )

pub write_row-t-requires : goal.write_row-t-requires
write_row-t-requires c =
    let so = c.loop-i.invariant in
    let a = c.args in (
      ways.filing-on a.resolver.now a.flags.now a.scratch.now
          c.loop-i.scratch c.requires.filing so.2,
      c.loop-i-test.true,
      record { vs = so.0.vs; so = so.0.so },
      fits-as (results (lent_in a.resolver.now) a.flags.now) a.answers.now a.chunks.now
          a.text.now c.loop-i.answers c.loop-i.chunks c.loop-i.text so.3 so.4 so.5 c.requires.text_value,
    )

pub loop-i-preserved : goal.loop-i-preserved
loop-i-preserved c =
    let so = c.loop-i.invariant in
    let a = c.args in (
      c.write_row-t.ensures a.answers.now a.chunks.now a.text.now so.0,
      omega (arith, c.loop-i-test.true),
      c.write_row-t.auto.scratch ∙ so.2,
      c.write_row-t.auto.answers ∙ so.3,
      c.write_row-t.auto.chunks ∙ so.4,
      c.write_row-t.auto.text ∙ so.5,
    )

pub returns : goal.returns
returns c =
    let a = c.args in
    ways.wrote-end a.resolver.now.file.now a.resolver.now.rows.now a.flags.now a.resolver.now.months.now a.resolver.now.words.now c.loop-i.i c.loop-i.t
    a.answers.now a.chunks.now a.text.now c.loop-i.answers c.loop-i.chunks c.loop-i.text c.loop-i-test.false
    c.loop-i.invariant.0

pub shape_of-scratch : goal.shape_of-scratch
shape_of-scratch c = c.loop-i.invariant.2

pub shape_of-answers : goal.shape_of-answers
shape_of-answers c = c.loop-i.invariant.3

pub shape_of-chunks : goal.shape_of-chunks
shape_of-chunks c = c.loop-i.invariant.4

pub shape_of-text : goal.shape_of-text
shape_of-text c = c.loop-i.invariant.5
