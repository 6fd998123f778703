-- `whole::file::whole` meets its contract. Assumes nothing.
use mathlib.Core.Path.{sym}
use lib.ListN.{length}
use Rattle.std.proofs.lemmas.Result.{err_from_is_err_and}
use Rattle.resolve.proofs.Asking.{asking}
use Rattle.whole.proofs.ways.FileWays as ways
use Rattle.whole.proofs.file.whole.Goals as goal

pub returns-in_err-checked : goal.returns-in_err-checked
returns-in_err-checked c =
    let a = c.args in
    let e = err_from_is_err_and c.from_residual.result c.from_residual.ensures.1 in
    rw (e.1, e.2)
    (ways.refuse _ _ a.answers.now a.chunks.now a.text.now
    (ways.all-file a.file.now a.rows.now a.flags.now a.months.now a.words.now (length a.scratch.now) c.check_file.result c.check_file.ensures _ c.in_err-checked.was))

pub returns-then-not-are_lent-values : goal.returns-then-not-are_lent-values
returns-then-not-are_lent-values c =
    let a = c.args in
    rw c.nowhere.ensures (ways.refuse _ _ a.answers.now a.chunks.now a.text.now
    (ways.all-rows a.file.now a.rows.now a.flags.now a.months.now a.words.now (length a.scratch.now)
    c.check_file.result c.check_file.ensures c.in_ok-checked.was c.are_lent.result c.values.result c.are_lent.ensures c.values.ensures c.if-not-are_lent-values.true))

pub returns-then-scratch-lt-LEAST_SCRATCH : goal.returns-then-scratch-lt-LEAST_SCRATCH
returns-then-scratch-lt-LEAST_SCRATCH c =
    let a = c.args in
    rw c.nowhere-then-scratch-lt-LEAST_SCRATCH.ensures (ways.refuse _ _ a.answers.now a.chunks.now a.text.now
    (ways.all-scratch a.file.now a.rows.now a.flags.now a.months.now a.words.now (length a.scratch.now)
    c.check_file.result c.check_file.ensures c.in_ok-checked.was c.are_lent.result c.values.result c.are_lent.ensures c.values.ensures c.if-not-are_lent-values.false
    c.if-scratch-lt-LEAST_SCRATCH.true))

pub indexed-requires : goal.indexed-requires
indexed-requires c =
    let a = c.args in
    let asks = ways.filed-asks a.file.now a.rows.now a.flags.now a.months.now a.words.now (length a.scratch.now)
    c.check_file.result c.check_file.ensures c.in_ok-checked.was c.are_lent.result c.values.result c.are_lent.ensures c.values.ensures c.if-not-are_lent-values.false in
    (asking.file-small a.file.now c.check_file.result c.check_file.ensures c.in_ok-checked.was, asks.0, c.build.ensures.index, asks.1, c.if-scratch-lt-LEAST_SCRATCH.false)

pub returns : goal.returns
returns c =
    let a = c.args in
    ways.writes_as (sym (ways.all-good a.file.now a.rows.now a.flags.now a.months.now a.words.now (length a.scratch.now)
    c.check_file.result c.check_file.ensures c.in_ok-checked.was c.are_lent.result c.values.result c.are_lent.ensures c.values.ensures c.if-not-are_lent-values.false
    c.if-scratch-lt-LEAST_SCRATCH.false)) c.indexed.ensures
