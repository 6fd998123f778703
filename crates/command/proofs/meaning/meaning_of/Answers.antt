-- `command::meaning::meaning_of` meets its contract. Assumes nothing.
use Rattle.std.proofs.Common.{arith, refl, ap, ◌∙◌}
use Rattle.text.proofs.general.Parts.{length_part}
use Rattle.command.specs.Commands.{meaning_of}
use Rattle.command.proofs.ways.MeaningRows as laws
use Rattle.command.proofs.meaning.meaning_of.Goals as goal

pub returns-then-n-eq1 : goal.returns-then-n-eq1
returns-then-n-eq1 c =
    let a = c.args in
    c.meaning_one.ensures ∙ ap meaning_of (laws.name-one a.s.now a.a a.e _ c.if-n-eq1.true c.requires.2 refl)

pub loop-i-init : goal.loop-i-init
loop-i-init c =
    let a = c.args in
    laws.going a.names.now _ _ _ _ c.requires.0 (length_part a.s.now a.a a.e c.requires.1 c.requires.2) c.if-n-eq1.false
    c.span_of-span.ensures

pub slice_bounds-eq-end : goal.slice_bounds-eq-end
slice_bounds-eq-end c = omega (arith, laws.room _ _ _ _ _ c.loop-i.invariant c.loop-i-test.true c.from-m.ensures)

pub overflow_add-i-then-eq : goal.overflow_add-i-then-eq
overflow_add-i-then-eq c = omega (arith, laws.room _ _ _ _ _ c.loop-i.invariant c.loop-i-test.true c.from-m.ensures, c.ranges)

pub bounds-names-i-then-eq : goal.bounds-names-i-then-eq
bounds-names-i-then-eq c = omega (arith, laws.room _ _ _ _ _ c.loop-i.invariant c.loop-i-test.true c.from-m.ensures, c.ranges)

pub overflow_add-i-then-eq-2 : goal.overflow_add-i-then-eq-2
overflow_add-i-then-eq-2 c = omega (arith, laws.room _ _ _ _ _ c.loop-i.invariant c.loop-i-test.true c.from-m.ensures, c.ranges)

pub bounds-names-i-then-eq-2 : goal.bounds-names-i-then-eq-2
bounds-names-i-then-eq-2 c = omega (arith, laws.room _ _ _ _ _ c.loop-i.invariant c.loop-i-test.true c.from-m.ensures, c.ranges)

pub overflow_add-i-then-eq-3 : goal.overflow_add-i-then-eq-3
overflow_add-i-then-eq-3 c = omega (arith, laws.room _ _ _ _ _ c.loop-i.invariant c.loop-i-test.true c.from-m.ensures, c.ranges)

pub bounds-names-i-then-eq-3 : goal.bounds-names-i-then-eq-3
bounds-names-i-then-eq-3 c = omega (arith, laws.room _ _ _ _ _ c.loop-i.invariant c.loop-i-test.true c.from-m.ensures, c.ranges)

pub returns-then-eq : goal.returns-then-eq
returns-then-eq c =
    let a = c.args in
    let g = laws.is-here _ _ _ _ c.loop-i.invariant c.loop-i-test.true in
    let room = laws.room _ _ _ _ _ c.loop-i.invariant c.loop-i-test.true c.from-m.ensures in
    c.meaning_at.ensures
    ∙ laws.found _ _ _ _ c.loop-i-test.true g _ _ c.from-m.ensures
    (laws.compared a.names.now a.s.now _ _ a.a a.e room c.requires.2 c.eq.ensures) c.if-eq.true

pub overflow_add-i-in-loop-i : goal.overflow_add-i-in-loop-i
overflow_add-i-in-loop-i c = omega (arith, laws.room _ _ _ _ _ c.loop-i.invariant c.loop-i-test.true c.from-m.ensures, c.ranges)

pub overflow_add-i-in-loop-i-2 : goal.overflow_add-i-in-loop-i-2
overflow_add-i-in-loop-i-2 c = omega (arith, laws.room _ _ _ _ _ c.loop-i.invariant c.loop-i-test.true c.from-m.ensures, c.ranges)

pub loop-i-smaller : goal.loop-i-smaller
loop-i-smaller c = omega (arith, laws.room _ _ _ _ _ c.loop-i.invariant c.loop-i-test.true c.from-m.ensures, c.ranges)

pub loop-i-preserved : goal.loop-i-preserved
loop-i-preserved c =
    let a = c.args in
    let g = laws.is-here _ _ _ _ c.loop-i.invariant c.loop-i-test.true in
    let room = laws.room _ _ _ _ _ c.loop-i.invariant c.loop-i-test.true c.from-m.ensures in
    laws.missed _ _ _ _ c.loop-i-test.true g _ _ c.from-m.ensures
    (laws.compared a.names.now a.s.now _ _ a.a a.e room c.requires.2 c.eq.ensures) c.if-eq.false

pub returns : goal.returns
returns c = laws.ended _ _ _ _ c.loop-i.invariant c.loop-i-test.false
