-- `values::elements::value` and `values::elements::name`, which call each other, meet their contracts: `name` calls `value` with fewer names left to
-- open, and `value` calls `name` with its own. What falls is twice the names left, and one more for `value`. Assumes nothing.
use Rattle.std.proofs.lemmas.Result.{err_from_is_err_and}
use Rattle.values.proofs.naming.OpenWays.{has, none-of}
use Prim.Native.Nat.{◌-◌, ◌/◌}
use native.Mathlib.Omega.{arith}
use Rattle.std.proofs.Common.{refl, sym, subst, ◌∙◌}
use lib.ListN.{length, take, length-set}
use Rattle.row.specs.declared.form.Kind.TheVariants.{Name}
use Rattle.row.specs.Row.{row}
use Rattle.row.specs.Limits.{most_open}
use Rattle.resolve.specs.Progress.{BoundedWent}
use Rattle.resolve.proofs.Asking.{asking}
use Rattle.values.specs.Field.{meaning_of}
use Rattle.values.specs.Uses.{RowInside, lent_in}
use Rattle.values.proofs.ways.ElementWays as ways
use Rattle.values.proofs.ways.NameWays as names
use Rattle.values.proofs.resolver.Resolver.+name_value.Goals as goal

pub name-returns-in-Err : goal.name-returns-in-Err
name-returns-in-Err t c =
    let a = c.args in
    let lent = lent_in a.self.now in
    let path = take (most_open - a.left) a.path.now in record {
      says_run = names.name-refused lent a.verb a.left path (row Name a.start a.end) a.st a.self.now.words.now c.meaning_of-m.result
          c.meaning_of-m.ensures.means c.may_open.result c.may_open.ensures a.chunks.now a.text.now _
          c.in-Err.is;
      bounded_went = ((c.requires.2, c.requires.3), refl);
    }

pub name-counted-t-requires : goal.name-counted-t-requires
name-counted-t-requires t c =
    let a = c.args in (
      c.requires.1,
      (names.some_left c.meaning_of-m.result (take (most_open - a.left) a.path.now) a.left a.st.names
          (sym c.may_open.ensures ∙ names.allowed _ c.in_default.not-Err)).1,
    )

pub name-overflow_sub-path : goal.name-overflow_sub-path
name-overflow_sub-path t c =
    let a = c.args in
    let left = (names.some_left c.meaning_of-m.result (take (most_open - a.left) a.path.now) a.left a.st.names
    (sym c.may_open.ensures ∙ names.allowed _ c.in_default.not-Err)).0 in
    omega (arith, left, c.requires.0.path.0, c.requires.0.path.1)

pub name-bounds-path-left : goal.name-bounds-path-left
name-bounds-path-left t c =
    let a = c.args in
    let left = (names.some_left c.meaning_of-m.result (take (most_open - a.left) a.path.now) a.left a.st.names
    (sym c.may_open.ensures ∙ names.allowed _ c.in_default.not-Err)).0 in
    omega (arith, left, c.requires.0.path.0, c.requires.0.path.1)

pub name-overflow_sub-left : goal.name-overflow_sub-left
name-overflow_sub-left t c =
    let a = c.args in
    let left = (names.some_left c.meaning_of-m.result (take (most_open - a.left) a.path.now) a.left a.st.names
    (sym c.may_open.ensures ∙ names.allowed _ c.in_default.not-Err)).0 in
    omega (arith, left, c.requires.0.path.0, c.requires.0.path.1)

pub name-overflow_mul-i : goal.name-overflow_mul-i
name-overflow_mul-i t c =
    let a = c.args in
    let inside = subst (RowInside (length a.self.now.rows.now / 4)) (has c.in-Some-Definition.is (rw c.in-Some-Definition.is at c.in-Some-Definition.field-0-is))
    c.meaning_of-m.ensures.row_inside in
    omega (arith, inside)

pub name-overflow_add-i : goal.name-overflow_add-i
name-overflow_add-i t c =
    let a = c.args in
    let inside = subst (RowInside (length a.self.now.rows.now / 4)) (has c.in-Some-Definition.is (rw c.in-Some-Definition.is at c.in-Some-Definition.field-0-is))
    c.meaning_of-m.ensures.row_inside in
    omega (arith, inside)

pub name-value-requires : goal.name-value-requires
name-value-requires t c =
    let a = c.args in
    let inside = subst (RowInside (length a.self.now.rows.now / 4)) (has c.in-Some-Definition.is (rw c.in-Some-Definition.is at c.in-Some-Definition.field-0-is))
    c.meaning_of-m.ensures.row_inside in
    let left = (names.some_left c.meaning_of-m.result (take (most_open - a.left) a.path.now) a.left a.st.names
    (sym c.may_open.ensures ∙ names.allowed _ c.in_default.not-Err)).0 in (
      omega (arith, left, c.decreases),
      (
        names.ready-value-down a.self.now a.scratch.now a.path.now a.left _ c.requires.0 (length-set a.path.now (most_open - a.left) _),
        c.counted-t.ensures.names_value.1,
        omega arith,
        omega (arith, inside),
      ),
    )

pub name-overflow_cast-start : goal.name-overflow_cast-start
name-overflow_cast-start t c =
    let a = c.args in
    omega (arith, c.requires.2)

pub name-overflow_cast-end : goal.name-overflow_cast-end
name-overflow_cast-end t c =
    let a = c.args in
    omega (arith, c.requires.3)

pub name-month-requires : goal.name-month-requires
name-month-requires t c =
    let a = c.args in
    let lent = lent_in a.self.now in
    let found = names.month-ends a.self.now.words.now (meaning_of lent (row Name a.start a.end)) c.meaning_of-m.result c.in-Some-Month.from c.in-Some-Month.to
    c.meaning_of-m.ensures.means (has c.in-Some-Month.is (rw c.in-Some-Month.is at c.in-Some-Month.field-0-is)) in
    (c.counted-t.ensures.names_value.1, found.0, found.1)

pub name-returns-in-Some-Definition : goal.name-returns-in-Some-Definition
name-returns-in-Some-Definition t c =
    let a = c.args in
    let lent = lent_in a.self.now in
    let path = take (most_open - a.left) a.path.now in
    let p = c.requires.0.path in
    let left = (names.some_left c.meaning_of-m.result (take (most_open - a.left) a.path.now) a.left a.st.names
    (sym c.may_open.ensures ∙ names.allowed _ c.in_default.not-Err)).0 in record {
      says_run = names.name-definition lent a.verb a.left path (row Name a.start a.end) a.st a.self.now.words.now c.meaning_of-m.result
          c.meaning_of-m.ensures.means c.may_open.result c.may_open.ensures a.chunks.now a.text.now
          (names.allowed _ c.in_default.not-Err) c.counted-t.result c.counted-t.ensures.names_value.0 c.counted-t.ensures.has c.in-Some-Definition.i
          (has c.in-Some-Definition.is (rw c.in-Some-Definition.is at c.in-Some-Definition.field-0-is))
          a.self.now.rows.now refl _
          (names.path-more a.path.now a.left c.in-Some-Definition.i p.0 left p.1) (a.left - 1) refl c.value.result _ _ c.value.ensures.says_run;
      bounded_went = (c.value.ensures.bounded_went.0, names.path-back a.path.now _ a.left c.in-Some-Definition.i left p.1 c.value.ensures.bounded_went.1);
    }

pub name-returns-in-Some-Month : goal.name-returns-in-Some-Month
name-returns-in-Some-Month t c =
    let a = c.args in
    let lent = lent_in a.self.now in
    let path = take (most_open - a.left) a.path.now in record {
      says_run = names.name-month lent a.verb a.left path (row Name a.start a.end) a.st a.self.now.words.now c.meaning_of-m.result
          c.meaning_of-m.ensures.means c.may_open.result c.may_open.ensures a.chunks.now a.text.now
          (names.allowed _ c.in_default.not-Err) c.counted-t.result c.counted-t.ensures.names_value.0 c.counted-t.ensures.has c.in-Some-Month.from
          c.in-Some-Month.to (has c.in-Some-Month.is (rw c.in-Some-Month.is at c.in-Some-Month.field-0-is)) c.month.result _ _ c.month.ensures.bounded.1 c.month.ensures.adds;
      bounded_went = (c.month.ensures.bounded.0, refl);
    }

pub name-returns-in-None : goal.name-returns-in-None
name-returns-in-None t c =
    let a = c.args in
    let lent = lent_in a.self.now in
    let path = take (most_open - a.left) a.path.now in
    absurd
    (names.name-known lent a.verb a.left path (row Name a.start a.end) a.st a.self.now.words.now c.meaning_of-m.result
    c.meaning_of-m.ensures.means c.may_open.result c.may_open.ensures a.chunks.now a.text.now
    (names.allowed _ c.in_default.not-Err) c.in-None.is)

pub value-loop-e-init : goal.value-loop-e-init
value-loop-e-init t c =
    let a = c.args in
    let p = c.requires in (
      refl,
      refl,
      refl,
      refl,
      p.3,
      p.1,
      ways.spans-from a.self.now.file.now a.self.now.rows.now a.self.now.months.now a.self.now.words.now a.at a.self.now.lent p.2,
      refl,
      λ r b t h. h,
    )

pub value-returns : goal.value-returns
value-returns t c =
    let a = c.args in
    let l = c.loop-e in
    let lent = lent_in a.self.now in
    let path = take (most_open - a.left) a.path.now in record {
      says_run = l.invariant.8 _ _ _ (ways.value-end lent a.verb a.left path a.self.now.rows.now l.i l.st l.chunks l.text c.element_at.result
          c.element_at.ensures (none-of _ c.in_default.not-Some));
      bounded_went = (l.invariant.5, l.invariant.7);
    }

pub value-slice_bounds-literal-count : goal.value-slice_bounds-literal-count
value-slice_bounds-literal-count t c =
    let a = c.args in
    let l = c.loop-e in
    let at = ways.placed a.self.now.file.now a.self.now.rows.now l.i l.invariant.6 c.element_at.result c.element_at.ensures _
    (has c.in-Some.is c.in-Literal.is) in
    omega (arith, at.1, at.2)

pub value-slice_bounds-literal-start : goal.value-slice_bounds-literal-start
value-slice_bounds-literal-start t c =
    let a = c.args in
    let l = c.loop-e in
    let at = ways.placed a.self.now.file.now a.self.now.rows.now l.i l.invariant.6 c.element_at.result c.element_at.ensures _
    (has c.in-Some.is c.in-Literal.is) in
    omega (arith, at.1, at.2)

pub value-slice_bounds-literal-end : goal.value-slice_bounds-literal-end
value-slice_bounds-literal-end t c =
    let a = c.args in
    let l = c.loop-e in
    let at = ways.placed a.self.now.file.now a.self.now.rows.now l.i l.invariant.6 c.element_at.result c.element_at.ensures _
    (has c.in-Some.is c.in-Literal.is) in
    omega (arith, at.1, at.2)

pub value-literal-requires : goal.value-literal-requires
value-literal-requires t c =
    let a = c.args in
    let l = c.loop-e in
    let at = ways.placed a.self.now.file.now a.self.now.rows.now l.i l.invariant.6 c.element_at.result c.element_at.ensures _
    (has c.in-Some.is c.in-Literal.is) in
    let p = c.requires.0 in (
      omega (arith, p.ready.scratch, l.invariant.1),
      l.invariant.5,
      asking.cut-room a.self.now.file.now c.in-Literal.start c.in-Literal.end at.1 at.2 a.self.now.short,
    )

pub value-loop-e-smaller-in-Literal : goal.value-loop-e-smaller-in-Literal
value-loop-e-smaller-in-Literal t c =
    let a = c.args in
    let l = c.loop-e in
    let at = ways.placed a.self.now.file.now a.self.now.rows.now l.i l.invariant.6 c.element_at.result c.element_at.ensures _
    (has c.in-Some.is c.in-Literal.is) in
    omega (arith, at.0)

pub value-loop-e-preserved-in-Literal : goal.value-loop-e-preserved-in-Literal
value-loop-e-preserved-in-Literal t c =
    let a = c.args in
    let l = c.loop-e in
    let at = ways.placed a.self.now.file.now a.self.now.rows.now l.i l.invariant.6 c.element_at.result c.element_at.ensures _
    (has c.in-Some.is c.in-Literal.is) in
    let lent = lent_in a.self.now in
    let path = take (most_open - a.left) a.path.now in (
      l.invariant.0,
      c.literal.auto.scratch ∙ l.invariant.1,
      c.literal.auto.chunks ∙ l.invariant.2,
      c.literal.auto.text ∙ l.invariant.3,
      omega (arith, at.0),
      subst BoundedWent c.in_ok-st-in-Literal.was c.literal.ensures.bounded_went,
      at.3,
      l.invariant.7,
      λ r₂ b₂ t₂ h. l.invariant.8 r₂ b₂ t₂
          (ways.literal-on lent a.verb a.left path a.self.now.rows.now l.i l.st l.chunks l.text c.element_at.result c.element_at.ensures c.in-Literal.start
          c.in-Literal.end at.0 c.literal.result _ _ (has c.in-Some.is c.in-Literal.is) _
          (asking.cut-part a.self.now.file.now c.in-Literal.start c.in-Literal.end at.1 at.2) c.literal.ensures.says_run
          _ c.in_ok-st-in-Literal.was r₂ b₂ t₂ h),
    )

pub value-returns-in_err-st-in-Literal : goal.value-returns-in_err-st-in-Literal
value-returns-in_err-st-in-Literal t c =
    let a = c.args in
    let l = c.loop-e in
    let at = ways.placed a.self.now.file.now a.self.now.rows.now l.i l.invariant.6 c.element_at.result c.element_at.ensures _
    (has c.in-Some.is c.in-Literal.is) in
    let lent = lent_in a.self.now in
    let path = take (most_open - a.left) a.path.now in
    let e = err_from_is_err_and c.from_residual.result c.from_residual.ensures.1 in
    rw (e.1, e.2)
    (record {
      says_run = l.invariant.8 _ _ _
          (ways.literal-stopped lent a.verb a.left path a.self.now.rows.now l.i l.st l.chunks l.text c.element_at.result c.element_at.ensures c.in-Literal.start
          c.in-Literal.end at.0 c.literal.result _ _ (has c.in-Some.is c.in-Literal.is) _
          (asking.cut-part a.self.now.file.now c.in-Literal.start c.in-Literal.end at.1 at.2) c.literal.ensures.says_run
          _ c.in_err-st-in-Literal.was);
      bounded_went = (subst BoundedWent c.in_err-st-in-Literal.was c.literal.ensures.bounded_went, l.invariant.7);
    })

pub value-name-requires : goal.value-name-requires
value-name-requires t c =
    let a = c.args in
    let l = c.loop-e in
    let at = ways.placed a.self.now.file.now a.self.now.rows.now l.i l.invariant.6 c.element_at.result c.element_at.ensures _
    (has c.in-Some.is c.in-Name.is) in
    let p = c.requires.0 in (
      omega (arith, c.decreases),
      (
        ways.ready-value-on a.self.now a.scratch.now a.path.now a.left l.scratch l.path p l.invariant.1 l.invariant.0,
        l.invariant.5,
        omega (arith, at.1, at.2, a.self.now.short),
        omega (arith, at.2, a.self.now.short),
      ),
    )

pub value-loop-e-smaller : goal.value-loop-e-smaller
value-loop-e-smaller t c =
    let a = c.args in
    let l = c.loop-e in
    let at = ways.placed a.self.now.file.now a.self.now.rows.now l.i l.invariant.6 c.element_at.result c.element_at.ensures _
    (has c.in-Some.is c.in-Name.is) in
    omega (arith, at.0)

pub value-loop-e-preserved : goal.value-loop-e-preserved
value-loop-e-preserved t c =
    let a = c.args in
    let l = c.loop-e in
    let at = ways.placed a.self.now.file.now a.self.now.rows.now l.i l.invariant.6 c.element_at.result c.element_at.ensures _
    (has c.in-Some.is c.in-Name.is) in
    let lent = lent_in a.self.now in
    let path = take (most_open - a.left) a.path.now in (
      c.name.auto.path ∙ l.invariant.0,
      c.name.auto.scratch ∙ l.invariant.1,
      c.name.auto.chunks ∙ l.invariant.2,
      c.name.auto.text ∙ l.invariant.3,
      omega (arith, at.0),
      subst BoundedWent c.in_ok-st-in-Name.was c.name.ensures.bounded_went.0,
      at.3,
      c.name.ensures.bounded_went.1 ∙ l.invariant.7,
      λ r₂ b₂ t₂ h. l.invariant.8 r₂ b₂ t₂
          (ways.name-on lent a.verb a.left path a.self.now.rows.now l.i l.st l.chunks l.text c.element_at.result c.element_at.ensures c.in-Name.start
          c.in-Name.end at.0 c.name.result _ _ (has c.in-Some.is c.in-Name.is) _ l.invariant.7
          c.name.ensures.says_run _ c.in_ok-st-in-Name.was r₂ b₂ t₂ h),
    )

pub value-returns-in_err-st-in-Name : goal.value-returns-in_err-st-in-Name
value-returns-in_err-st-in-Name t c =
    let a = c.args in
    let l = c.loop-e in
    let at = ways.placed a.self.now.file.now a.self.now.rows.now l.i l.invariant.6 c.element_at.result c.element_at.ensures _
    (has c.in-Some.is c.in-Name.is) in
    let lent = lent_in a.self.now in
    let path = take (most_open - a.left) a.path.now in
    let e = err_from_is_err_and c.from_residual-in_err-st-in-Name.result c.from_residual-in_err-st-in-Name.ensures.1 in
    rw (e.1, e.2)
    (record {
      says_run = l.invariant.8 _ _ _
          (ways.name-stopped lent a.verb a.left path a.self.now.rows.now l.i l.st l.chunks l.text c.element_at.result c.element_at.ensures c.in-Name.start
          c.in-Name.end at.0 c.name.result _ _ (has c.in-Some.is c.in-Name.is) _ l.invariant.7 c.name.ensures.says_run
          _ c.in_err-st-in-Name.was);
      bounded_went = (subst BoundedWent c.in_err-st-in-Name.was c.name.ensures.bounded_went.0, c.name.ensures.bounded_went.1 ∙ l.invariant.7);
    })
