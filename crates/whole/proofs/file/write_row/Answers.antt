-- `whole::file::write_row` meets its contract. Assumes nothing.
use native.Mathlib.Omega.{arith}
use mathlib.Core.Path.{sym, ◌∙◌}
use Rattle.values.specs.Uses.{lent_in}
use Rattle.whole.proofs.counting.RowKinds.{inside}
use Rattle.whole.proofs.ways.ValueWays as ways
use Rattle.whole.proofs.file.write_row.Goals as goal

pub returns-then-not-is_value : goal.returns-then-not-is_value
returns-then-not-is_value c =
    let a = c.args in
    λ q b x o. ways.row_other (lent_in a.resolver.now) a.flags.now a.i a.t
    (inside a.resolver.now.rows.now a.i c.requires.1) (sym c.is_value.ensures ∙ c.if-not-is_value.true)
    a.answers.now a.chunks.now a.text.now q b x o

pub flag_at-verbatim-requires : goal.flag_at-verbatim-requires
flag_at-verbatim-requires c =
    let a = c.args in
    let p = c.requires in
    let here = ways.here-row a.resolver.now.file.now a.resolver.now.rows.now a.flags.now a.resolver.now.months.now a.resolver.now.words.now a.i a.t a.answers.now
    a.chunks.now a.text.now
    p.1 c.is_value.result c.is_value.ensures c.if-not-is_value.false p.3 p.0.flagged p.2 in
    here.flag

pub overflow_mul-first : goal.overflow_mul-first
overflow_mul-first c =
    let a = c.args in
    let p = c.requires in
    let here = ways.here-row a.resolver.now.file.now a.resolver.now.rows.now a.flags.now a.resolver.now.months.now a.resolver.now.words.now a.i a.t a.answers.now
    a.chunks.now a.text.now
    p.1 c.is_value.result c.is_value.ensures c.if-not-is_value.false p.3 p.0.flagged p.2 in
    omega (arith, here.few)

pub offset_bounds-chunks-first : goal.offset_bounds-chunks-first
offset_bounds-chunks-first c =
    let a = c.args in
    let p = c.requires in
    let here = ways.here-row a.resolver.now.file.now a.resolver.now.rows.now a.flags.now a.resolver.now.months.now a.resolver.now.words.now a.i a.t a.answers.now
    a.chunks.now a.text.now
    p.1 c.is_value.result c.is_value.ensures c.if-not-is_value.false p.3 p.0.flagged p.2 in
    omega (arith, here.few)

pub slice_bounds-write-count : goal.slice_bounds-write-count
slice_bounds-write-count c =
    let a = c.args in
    let p = c.requires in
    let here = ways.here-row a.resolver.now.file.now a.resolver.now.rows.now a.flags.now a.resolver.now.months.now a.resolver.now.words.now a.i a.t a.answers.now
    a.chunks.now a.text.now
    p.1 c.is_value.result c.is_value.ensures c.if-not-is_value.false p.3 p.0.flagged p.2 in
    omega (arith, here.chunks)

pub slice_bounds-write-start : goal.slice_bounds-write-start
slice_bounds-write-start c =
    let a = c.args in
    let p = c.requires in
    let here = ways.here-row a.resolver.now.file.now a.resolver.now.rows.now a.flags.now a.resolver.now.months.now a.resolver.now.words.now a.i a.t a.answers.now
    a.chunks.now a.text.now
    p.1 c.is_value.result c.is_value.ensures c.if-not-is_value.false p.3 p.0.flagged p.2 in
    omega (arith, here.chunks)

pub slice_bounds-write-count-2 : goal.slice_bounds-write-count-2
slice_bounds-write-count-2 c =
    let a = c.args in
    let p = c.requires in
    let here = ways.here-row a.resolver.now.file.now a.resolver.now.rows.now a.flags.now a.resolver.now.months.now a.resolver.now.words.now a.i a.t a.answers.now
    a.chunks.now a.text.now
    p.1 c.is_value.result c.is_value.ensures c.if-not-is_value.false p.3 p.0.flagged p.2 in
    omega (arith, here.text)

pub slice_bounds-write-start-2 : goal.slice_bounds-write-start-2
slice_bounds-write-start-2 c =
    let a = c.args in
    let p = c.requires in
    let here = ways.here-row a.resolver.now.file.now a.resolver.now.rows.now a.flags.now a.resolver.now.months.now a.resolver.now.words.now a.i a.t a.answers.now
    a.chunks.now a.text.now
    p.1 c.is_value.result c.is_value.ensures c.if-not-is_value.false p.3 p.0.flagged p.2 in
    omega (arith, here.text)

pub answer_row-requires : goal.answer_row-requires
answer_row-requires c =
    let a = c.args in
    let p = c.requires in
    let here = ways.here-row a.resolver.now.file.now a.resolver.now.rows.now a.flags.now a.resolver.now.months.now a.resolver.now.words.now a.i a.t a.answers.now
    a.chunks.now a.text.now
    p.1 c.is_value.result c.is_value.ensures c.if-not-is_value.false p.3 p.0.flagged p.2 in
    let behind = ways.behind-row a.resolver.now.file.now a.resolver.now.rows.now a.flags.now a.resolver.now.months.now a.resolver.now.words.now a.i a.t
    a.answers.now a.chunks.now a.text.now
    p.1 c.is_value.result c.is_value.ensures c.if-not-is_value.false p.3 p.2 c.flag_at-verbatim.result c.flag_at-verbatim.ensures
    c.write-a.result _ _ c.write-a.ensures.writes in
    (record { rows = here.few; bytes = here.short }, c.write-a.ensures.bounded_answer, behind, here.answers, omega (arith, here.answers))

pub returns : goal.returns
returns c =
    let a = c.args in
    let p = c.requires in
    λ q b x o. ways.wrote-row a.resolver.now.file.now a.resolver.now.rows.now a.flags.now a.resolver.now.months.now a.resolver.now.words.now a.i a.t a.answers.now
    a.chunks.now a.text.now
    p.1 c.is_value.result c.is_value.ensures c.if-not-is_value.false p.3 c.flag_at-verbatim.result c.flag_at-verbatim.ensures
    c.write-a.result _ _ c.write-a.ensures.writes c.answer_row.result c.answer_row.ensures.adds_answer.0 _ c.answer_row.ensures.answers_after q b x o
