-- `fields::field::several` meets its contract. Assumes nothing.
use Prim.Native.Nat.{◌+◌, ◌*◌}
use native.Mathlib.Omega.{arith}
use Rattle.std.proofs.lemmas.Result.{err_from_is_err_and}
use mathlib.Core.Path.{refl, subst, ap, ◌∙◌}
use mathlib.Core.Bool.{not}
use mathlib.Core.List.{[]}
use lib.ListN.{drop}
use Rattle.row.specs.Numbers.{rows_of}
use Rattle.row.specs.Limits.{most_open}
use Rattle.resolve.specs.Progress.{BoundedWent}
use Rattle.values.specs.Uses.{value_from, lent_in}
use Rattle.fields.proofs.ways.FieldWays.{says-count}
use Rattle.fields.proofs.ways.FieldWays as ways
use Rattle.fields.proofs.field.several.Goals as goal

pub overflow_mul-at : goal.overflow_mul-at
overflow_mul-at c = omega (arith, c.requires.which)

pub overflow_add-at : goal.overflow_add-at
overflow_add-at c = omega (arith, c.requires.which)

pub value-requires : goal.value-requires
value-requires c =
    let a = c.args in
    let p = c.requires in (
      ways.ready-value-first a.resolver.now a.scratch.now a.which a.scratch.now _ p refl refl,
      c.begin-first.ensures.1,
      omega arith,
      omega (arith, p.which),
    )

pub fits-requires : goal.fits-requires
fits-requires c =
    let a = c.args in
    subst BoundedWent c.in_ok-st.was c.value.ensures.bounded_went.0

pub returns-then-not-fits : goal.returns-then-not-fits
returns-then-not-fits c =
    let a = c.args in
    let run = value_from (lent_in a.resolver.now) a.verbatim most_open [] (rows_of (drop (a.which * 4 + 4) a.resolver.now.rows.now)) in
    let said = says-count run c.begin-first.result.names 0 c.begin-first.ensures.2 c.begin-first.result _ _ c.value.result _ _ c.value.ensures.says_run in
    rw c.nowhere.ensures
    (record {
      writes = ways.field_at (lent_in a.resolver.now) a.verbatim a.resolver.now.rows.now a.which refl a.chunks.now a.text.now _ _ _
          (ways.several-full (run 0) c.begin-first.result c.begin-first.ensures.0 _ _ c.value.result _ _ said a.chunks.now a.text.now
          _ c.in_ok-st.was c.fits.result c.fits.ensures (ap not c.if-not-fits.true));
      bounded_answer = (omega arith, omega arith);
    })

pub fits-requires-2 : goal.fits-requires-2
fits-requires-2 c =
    let a = c.args in
    subst BoundedWent c.in_ok-st.was c.value.ensures.bounded_went.0

pub copy_out-requires : goal.copy_out-requires
copy_out-requires c =
    let a = c.args in
    let run = value_from (lent_in a.resolver.now) a.verbatim most_open [] (rows_of (drop (a.which * 4 + 4) a.resolver.now.rows.now)) in
    let said = says-count run c.begin-first.result.names 0 c.begin-first.ensures.2 c.begin-first.result _ _ c.value.result _ _ c.value.ensures.says_run in
    let rows = c.value.new.chunks in
    let text = c.value.new.text in
    let held = ways.several-room (run 0) c.begin-first.result c.begin-first.ensures.0 _ _ c.value.result _ _ said a.chunks.now a.text.now
    _ c.in_ok-st.was c.fits-2.result rows text c.fits-2.ensures c.if-fits.true in
    let free = ways.several-room (run 0) c.begin-first.result c.begin-first.ensures.0 _ _ c.value.result _ _ said a.chunks.now a.text.now
    _ c.in_ok-st.was c.fits.result a.chunks.now a.text.now c.fits.ensures c.if-not-fits.false in
    (held.0, free.0, held.1, free.1, subst BoundedWent c.in_ok-st.was c.value.ensures.bounded_went.0)

pub returns-then-fits : goal.returns-then-fits
returns-then-fits c =
    let a = c.args in
    let run = value_from (lent_in a.resolver.now) a.verbatim most_open [] (rows_of (drop (a.which * 4 + 4) a.resolver.now.rows.now)) in
    let said = says-count run c.begin-first.result.names 0 c.begin-first.ensures.2 c.begin-first.result _ _ c.value.result _ _ c.value.ensures.says_run in record {
      writes = ways.field_at (lent_in a.resolver.now) a.verbatim a.resolver.now.rows.now a.which refl a.chunks.now a.text.now _ _ _
          (ways.several-copied (run 0) c.begin-first.result c.begin-first.ensures.0 _ _ c.value.result _ _ said a.chunks.now a.text.now
          _ c.in_ok-st.was c.fits.result c.fits.ensures c.if-not-fits.false c.answer.result c.answer.ensures
          c.value.auto.chunks c.value.auto.text
          c.fits-2.result c.fits-2.ensures c.if-fits.true _ _ c.copy_out.ensures.chunks_after c.copy_out.ensures.text_after);
      bounded_answer = ways.answer-bounded _ (subst BoundedWent c.in_ok-st.was c.value.ensures.bounded_went.0) c.answer.result c.answer.ensures;
    }

pub value-requires-2 : goal.value-requires-2
value-requires-2 c =
    let a = c.args in
    let p = c.requires in (
      ways.ready-value-first a.resolver.now a.scratch.now a.which _ _ p c.value.auto.scratch c.value.auto.path,
      c.begin-first.ensures.1,
      omega arith,
      omega (arith, p.which),
    )

pub returns-in_err-st : goal.returns-in_err-st
returns-in_err-st c =
    let a = c.args in
    let run = value_from (lent_in a.resolver.now) a.verbatim most_open []
    (rows_of (drop (a.which * 4 + 4) a.resolver.now.rows.now)) in
    let said = says-count run c.begin-first.result.names 0 c.begin-first.ensures.2 c.begin-first.result _ _ c.value.result _ _ c.value.ensures.says_run in
    let e = err_from_is_err_and c.from_residual.result c.from_residual.ensures.1 in
    rw (e.1, e.2)
    (record {
      writes = ways.field_at (lent_in a.resolver.now) a.verbatim a.resolver.now.rows.now a.which refl
          a.chunks.now a.text.now _ _ _
          (ways.several-refused (run 0) c.begin-first.result c.begin-first.ensures.0 _ _ c.value.result _ _ said a.chunks.now a.text.now _ c.in_err-st.was);
      bounded_answer = subst BoundedWent c.in_err-st.was c.value.ensures.bounded_went.0;
    })

pub shape_of-scratch : goal.shape_of-scratch
shape_of-scratch c =
    let a = c.args in
    c.value-2.auto.scratch ∙ c.value.auto.scratch

pub shape_of-chunks : goal.shape_of-chunks
shape_of-chunks c = c.value-2.auto.chunks

pub shape_of-text : goal.shape_of-text
shape_of-text c = c.value-2.auto.text

pub returns : goal.returns
returns c =
    let a = c.args in
    let run = value_from (lent_in a.resolver.now) a.verbatim most_open [] (rows_of (drop (a.which * 4 + 4) a.resolver.now.rows.now)) in
    let said = says-count run c.begin-first.result.names 0 c.begin-first.ensures.2 c.begin-first.result _ _ c.value.result _ _ c.value.ensures.says_run in record {
      writes = ways.field_at (lent_in a.resolver.now) a.verbatim a.resolver.now.rows.now a.which refl a.chunks.now a.text.now _ _ _
          (ways.several-again (run 0) c.begin-first.result c.begin-first.ensures.0 _ _ c.value.result _ _ said a.chunks.now a.text.now
          _ c.in_ok-st.was c.fits.result c.fits.ensures c.if-not-fits.false c.answer-2.result
          c.answer-2.ensures c.value-2.result _ _
          (says-count run c.begin-first.result.names 0 c.begin-first.ensures.2 c.begin-first.result _ _ c.value-2.result _ _ c.value-2.ensures.says_run));
      bounded_answer = ways.answer-bounded _ (subst BoundedWent c.in_ok-st.was c.value.ensures.bounded_went.0) c.answer-2.result c.answer-2.ensures;
    }
