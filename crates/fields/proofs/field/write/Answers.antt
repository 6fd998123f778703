-- `fields::field::write` meets its contract. Assumes nothing.
use mathlib.Core.Path.{refl, sym, ◌∙◌}
use Rattle.values.specs.Uses.{lent_in}
use Rattle.resolve.proofs.Asking.{asking}
use Rattle.fields.proofs.ways.FieldWays.{only_at_lem, only-inside}
use Rattle.fields.proofs.field.write.Goals as goal

pub slice_bounds-single-count : goal.slice_bounds-single-count
slice_bounds-single-count c =
    let a = c.args in
    let at = only-inside a.resolver.now.file.now a.resolver.now.rows.now a.resolver.now.months.now a.resolver.now.words.now a.which c.in-Some.start c.in-Some.end
    a.resolver.now.lent (sym c.only_literal.ensures ∙ c.in-Some.is) in
    at.0

pub slice_bounds-single-start : goal.slice_bounds-single-start
slice_bounds-single-start c =
    let a = c.args in
    let at = only-inside a.resolver.now.file.now a.resolver.now.rows.now a.resolver.now.months.now a.resolver.now.words.now a.which c.in-Some.start c.in-Some.end
    a.resolver.now.lent (sym c.only_literal.ensures ∙ c.in-Some.is) in
    at.0

pub slice_bounds-single-end : goal.slice_bounds-single-end
slice_bounds-single-end c =
    let a = c.args in
    let at = only-inside a.resolver.now.file.now a.resolver.now.rows.now a.resolver.now.months.now a.resolver.now.words.now a.which c.in-Some.start c.in-Some.end
    a.resolver.now.lent (sym c.only_literal.ensures ∙ c.in-Some.is) in
    at.1

pub single-requires : goal.single-requires
single-requires c =
    let a = c.args in
    let at = only-inside a.resolver.now.file.now a.resolver.now.rows.now a.resolver.now.months.now a.resolver.now.words.now a.which c.in-Some.start c.in-Some.end
    a.resolver.now.lent (sym c.only_literal.ensures ∙ c.in-Some.is) in
    (asking.cut-room a.resolver.now.file.now c.in-Some.start c.in-Some.end at.0 at.1 a.resolver.now.short, c.requires.ready.scratch)

pub returns-in-Some : goal.returns-in-Some
returns-in-Some c =
    let a = c.args in
    let first = c.in-Some.start in
    let last = c.in-Some.end in
    let only = sym c.only_literal.ensures ∙ c.in-Some.is in
    let at = only-inside a.resolver.now.file.now a.resolver.now.rows.now a.resolver.now.months.now a.resolver.now.words.now a.which first last a.resolver.now.lent only in record {
      writes = only_at_lem (lent_in a.resolver.now) a.verbatim a.resolver.now.rows.now a.which refl first last only _
          (asking.cut-part a.resolver.now.file.now first last at.0 at.1) a.chunks.now a.text.now c.single.result _ _
          c.single.ensures.writes;
      bounded_answer = c.single.ensures.bounded_answer;
    }
