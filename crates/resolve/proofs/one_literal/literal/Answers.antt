-- `resolve::one_literal::literal` meets its contract. Assumes nothing.
use Rattle.std.proofs.Common.{ap, not, length}
use Rattle.std.proofs.lemmas.Result.{err_from_is_err_and}
use Rattle.text.specs.Scan.{part}
use Rattle.literal.specs.Literal.{resolve_literal}
use Rattle.resolve.specs.OneLiteral.{is_span, value_of}
use Rattle.resolve.proofs.ways.AskedWays.{asked-file, asked-bad, asked-scratch, asked-all, span-good, span-room, span-writes}
use Rattle.resolve.proofs.one_literal.literal.Goals as goal

pub returns-in_err-checked : goal.returns-in_err-checked
returns-in_err-checked c =
    let a = c.args in
    let e = err_from_is_err_and c.from_residual.result c.from_residual.ensures.1 in
    rw (e.1, e.2)
    (asked-file a.file.now (is_span a.file.now a.start a.end) (length a.scratch.now)
    (value_of (resolve_literal a.verbatim (part a.file.now a.start a.end) a.start)) a.chunks.now a.text.now
    c.check_file.result c.check_file.ensures _ c.in_err-checked.was)

pub returns-then-not-is_span : goal.returns-then-not-is_span
returns-then-not-is_span c =
    let a = c.args in
    rw c.nowhere.ensures
    (asked-bad a.file.now (is_span a.file.now a.start a.end) (length a.scratch.now)
    (value_of (resolve_literal a.verbatim (part a.file.now a.start a.end) a.start)) a.chunks.now a.text.now
    c.check_file.result c.check_file.ensures c.in_ok-checked.was c.is_span.result c.is_span.ensures
    (ap not c.if-not-is_span.true))

pub returns-then-scratch-lt-LEAST_SCRATCH : goal.returns-then-scratch-lt-LEAST_SCRATCH
returns-then-scratch-lt-LEAST_SCRATCH c =
    let a = c.args in
    rw c.nowhere-then-scratch-lt-LEAST_SCRATCH.ensures
    (asked-scratch a.file.now (is_span a.file.now a.start a.end) (length a.scratch.now)
    (value_of (resolve_literal a.verbatim (part a.file.now a.start a.end) a.start)) a.chunks.now a.text.now
    c.check_file.result c.check_file.ensures c.in_ok-checked.was c.is_span.result c.is_span.ensures
    (ap not c.if-not-is_span.false) c.if-scratch-lt-LEAST_SCRATCH.true)

pub slice_bounds-with_tables-count : goal.slice_bounds-with_tables-count
slice_bounds-with_tables-count c =
    let a = c.args in
    (span-good a.file.now a.start a.end c.is_span.result c.is_span.ensures (ap not c.if-not-is_span.false)).0

pub slice_bounds-with_tables-start : goal.slice_bounds-with_tables-start
slice_bounds-with_tables-start c =
    let a = c.args in
    (span-good a.file.now a.start a.end c.is_span.result c.is_span.ensures (ap not c.if-not-is_span.false)).0

pub slice_bounds-with_tables-end : goal.slice_bounds-with_tables-end
slice_bounds-with_tables-end c =
    let a = c.args in
    (span-good a.file.now a.start a.end c.is_span.result c.is_span.ensures (ap not c.if-not-is_span.false)).1

pub with_tables-requires : goal.with_tables-requires
with_tables-requires c =
    let a = c.args in (
      span-room a.file.now a.start a.end c.is_span.result c.is_span.ensures (ap not c.if-not-is_span.false) c.check_file.result
          c.check_file.ensures c.in_ok-checked.was,
      c.if-scratch-lt-LEAST_SCRATCH.false,
    )

pub returns : goal.returns
returns c =
    let a = c.args in
    asked-all a.file.now (is_span a.file.now a.start a.end) (length a.scratch.now)
    (value_of (resolve_literal a.verbatim (part a.file.now a.start a.end) a.start)) a.chunks.now a.text.now
    c.check_file.result c.check_file.ensures c.in_ok-checked.was c.is_span.result c.is_span.ensures
    (ap not c.if-not-is_span.false) c.if-scratch-lt-LEAST_SCRATCH.false c.with_tables.result _ _
    (span-writes a.file.now a.start a.end c.is_span.result c.is_span.ensures (ap not c.if-not-is_span.false) a.verbatim a.chunks.now
    a.text.now c.with_tables.result _ _ c.with_tables.ensures)
