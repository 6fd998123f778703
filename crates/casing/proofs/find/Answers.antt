-- `casing::find` meets its contract. At each need `row` says that the six numbers which were taken are the row at the place where the search has
-- answered.
-- Assumes nothing.
use Rattle.std.proofs.Common.{◌≡◌, ◌+◌, ◌%◌, ◌<◌, ◌≤◌, ◌-◌, subst, sym, arith}
use Rattle.casing.specs.Mapping.{Stride, Maps}
use Rattle.casing.proofs.lists.Rows.{taken}
use Rattle.casing.proofs.lists.Halving.{going, fits, no_row, before-row, between-steps, in_row}
use Rattle.casing.proofs.find.Goals as goal

pub returns-in_default : goal.returns-in_default
returns-in_default c = no_row c.args.t.now c.args.c c.place-i.result c.place-i.ensures.0 (omega (arith, c.in_default.ensures.cases))

pub returns-then-c-first : goal.returns-then-c-first
returns-then-c-first c =
    let t = c.args.t.now in
    let y = c.in-Some.ensures.cases in
    let row = taken t c.in-Some.field-0.now c.place-i.result (omega arith) y.same in
    before-row t c.args.c c.place-i.result c.place-i.ensures.0 (omega arith) (subst (λ (r : Stride). c.args.c < r.first) row c.if-c-first.true)

pub nonzero_rem-over : goal.nonzero_rem-over
nonzero_rem-over c =
    let t = c.args.t.now in
    let y = c.in-Some.ensures.cases in
    let row = taken t c.in-Some.field-0.now c.place-i.result (omega arith) y.same in
    subst (λ (r : Stride). 0 < r.step) (sym row) (going t c.requires c.args.c c.place-i.result c.place-i.ensures.0 (omega arith))

pub returns-then-over-ne0 : goal.returns-then-over-ne0
returns-then-over-ne0 c =
    let t = c.args.t.now in
    let y = c.in-Some.ensures.cases in
    let row = taken t c.in-Some.field-0.now c.place-i.result (omega arith) y.same in
    between-steps t c.args.c c.place-i.result c.place-i.ensures.0 (omega arith) (subst (λ (r : Stride). r.first ≤ c.args.c) row c.if-c-first.false)
    (subst (λ (r : Stride). (c.args.c - r.first) % r.step ≡ 0 → ⊥) row c.if-over-ne0.true)

pub overflow_add-result : goal.overflow_add-result
overflow_add-result c =
    let t = c.args.t.now in
    let y = c.in-Some.ensures.cases in
    let row = taken t c.in-Some.field-0.now c.place-i.result (omega arith) y.same in
    let most = subst (λ (r : Stride). r.one + (c.args.c - r.first) ≤ 0x10FFFF) (sym row)
    (fits t c.requires c.args.c c.place-i.result c.place-i.ensures.0 (omega arith)) in
    record { fits = omega (arith, most) }

pub returns : goal.returns
returns c =
    let t = c.args.t.now in
    let y = c.in-Some.ensures.cases in
    let row = taken t c.in-Some.field-0.now c.place-i.result (omega arith) y.same in
    subst (λ (r : Stride). Maps t c.args.c (r.one + (c.args.c - r.first)) r.two r.three) (sym row)
    (in_row t c.args.c c.place-i.result c.place-i.ensures.0 (omega arith) (subst (λ (r : Stride). r.first ≤ c.args.c) row c.if-c-first.false)
    (subst (λ (r : Stride). (c.args.c - r.first) % r.step ≡ 0) row c.if-over-ne0.false))
