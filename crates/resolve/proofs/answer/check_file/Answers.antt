-- `resolve::answer::check_file` meets its contract. Assumes nothing.
use Rattle.std.specs.Prelude.{Ok, Err}
use Rattle.std.proofs.Common.{sym, ◌∙◌}
use Rattle.std.proofs.lemmas.Result.{err_from_is_err_and}
use Rattle.resolve.proofs.ways.AskedWays.{file-long, file-utf8}
use Rattle.resolve.proofs.answer.check_file.Goals as goal

pub returns-then-file-gt-MOST_BYTES : goal.returns-then-file-gt-MOST_BYTES
returns-then-file-gt-MOST_BYTES c = rw c.nowhere.ensures (file-long c.args.file.now c.if-file-gt-MOST_BYTES.true)

pub returns-in_err-validate : goal.returns-in_err-validate
returns-in_err-validate c =
    let e = err_from_is_err_and c.from_residual.result c.from_residual.ensures.1 in
    rw (e.1, e.2)
    (file-utf8 c.args.file.now (Err c.in_err-validate.field-0.0) c.if-file-gt-MOST_BYTES.false (sym c.in_err-validate.was ∙ c.validate.ensures))

pub returns : goal.returns
returns c = file-utf8 c.args.file.now (Ok tt) c.if-file-gt-MOST_BYTES.false (sym c.in_ok-validate.was ∙ c.validate.ensures)
