-- `text::scanner::eat_rest` meets its contract: a turn of the loop is one or more turns of `skip`. One proof serves every test. Assumes nothing.
use mathlib.Core.Path.{refl, sym, ◌∙◌}
use native.Mathlib.Omega.{arith}
use Rattle.text.specs.Inner.{wants}
use Rattle.text.proofs.scanning.Skip.{skip-end, one_on, one-stop, wide-on, wide-stop, wants-on, wants-off, ran_on, ran-stop, ran}
use Rattle.text.proofs.scanner.eat_rest.Goals as goal

pub loop-i-init : goal.loop-i-init
loop-i-init c = refl

pub returns-then-s-j : goal.returns-then-s-j
returns-then-s-j c =
    let a = c.args in
    let p = wants a.t a.want in
    let e = c.loop-i.invariant ∙ ran_on a.t a.want c.ascii-masks.result c.ascii-masks.ensures a.s.now c.loop-i.i c.ascii_run-j.ensures in
    ran p a.s.now a.at (sym (e ∙ skip-end p a.s.now _ c.if-s-j.true))

pub bounds-s-j : goal.bounds-s-j
bounds-s-j c = omega arith

pub returns-then-s-j-lt128 : goal.returns-then-s-j-lt128
returns-then-s-j-lt128 c =
    let a = c.args in
    let p = wants a.t a.want in
    ran p a.s.now a.at
    (sym
    (c.loop-i.invariant ∙ ran-stop a.t a.want c.ascii-masks.result c.ascii-masks.ensures a.s.now c.loop-i.i c.ascii_run-j.ensures c.if-s-j.false
    c.if-s-j-lt128.true))

pub returns-then-want : goal.returns-then-want
returns-then-want c =
    let a = c.args in
    let p = wants a.t a.want in
    let e = c.loop-i.invariant ∙ ran_on a.t a.want c.ascii-masks.result c.ascii-masks.ensures a.s.now c.loop-i.i c.ascii_run-j.ensures in
    ran p a.s.now a.at
    (sym
    (e ∙ wide-stop p a.s.now _ c.if-s-j.false c.if-s-j-lt128.false
    (λ n h. wants-off a.t n a.want c.if-want.true (c.ascii-masks.ensures.others c.if-narrow.true n h))))

pub overflow_add-i : goal.overflow_add-i
overflow_add-i c = omega arith

pub loop-i-smaller-then-narrow : goal.loop-i-smaller-then-narrow
loop-i-smaller-then-narrow c = omega (arith, c.ascii_run-j.ensures.from)

pub loop-i-preserved-then-narrow : goal.loop-i-preserved-then-narrow
loop-i-preserved-then-narrow c =
    let a = c.args in
    let p = wants a.t a.want in
    let e = c.loop-i.invariant ∙ ran_on a.t a.want c.ascii-masks.result c.ascii-masks.ensures a.s.now c.loop-i.i c.ascii_run-j.ensures in
    e ∙ wide-on p (λ n h. wants-on a.t n a.want c.if-want.false (c.ascii-masks.ensures.others c.if-narrow.true n h)) a.s.now _ c.if-s-j.false c.if-s-j-lt128.false

pub returns-then-next-j : goal.returns-then-next-j
returns-then-next-j c =
    let a = c.args in
    let p = wants a.t a.want in
    let e = c.loop-i.invariant ∙ ran_on a.t a.want c.ascii-masks.result c.ascii-masks.ensures a.s.now c.loop-i.i c.ascii_run-j.ensures in
    ran p a.s.now a.at (sym (e ∙ one-stop p a.s.now _ c.if-s-j.false c.eat_wide-next.ensures c.if-next-j.true))

pub loop-i-smaller : goal.loop-i-smaller
loop-i-smaller c =
    let a = c.args in
    let n = one_on (wants a.t a.want) a.s.now _ c.if-s-j.false c.eat_wide-next.ensures c.if-next-j.false in
    omega (arith, c.ascii_run-j.ensures.from)

pub loop-i-preserved : goal.loop-i-preserved
loop-i-preserved c =
    let a = c.args in
    let p = wants a.t a.want in
    let e = c.loop-i.invariant ∙ ran_on a.t a.want c.ascii-masks.result c.ascii-masks.ensures a.s.now c.loop-i.i c.ascii_run-j.ensures in
    e ∙ (one_on p a.s.now _ c.if-s-j.false c.eat_wide-next.ensures c.if-next-j.false).2

pub returns : goal.returns
returns c =
    let a = c.args in
    let turn = c.loop-i in
    let p = wants a.t a.want in
    ran p a.s.now a.at (sym (turn.invariant ∙ skip-end p a.s.now _ c.loop-i-test.false))
