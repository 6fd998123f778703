-- `chunk::check::check` meets its contract. Assumes nothing.
use Rattle.std.proofs.Common.{sym, ◌∙◌}
use Rattle.std.proofs.lemmas.Result.{err_from_is_err_and}
use Rattle.chunk.proofs.rows.Answers as laws
use Rattle.chunk.proofs.check.check.Goals as goal

pub returns-in_err-validate_text : goal.returns-in_err-validate_text
returns-in_err-validate_text c =
    let a = c.args in
    let e = err_from_is_err_and c.from_residual.result c.from_residual.ensures.1 in
    rw (e.1, e.2) (laws.ill-formed a.t.now a.rows.now _ (sym c.validate_text.ensures ∙ c.in_err-validate_text.was))

pub returns-then-not-are_chunks : goal.returns-then-not-are_chunks
returns-then-not-are_chunks c =
    let a = c.args in
    let valid = sym c.validate_text.ensures ∙ c.in_ok-validate_text.was in
    rw c.nowhere.ensures (laws.bad-rows a.t.now a.rows.now valid (sym c.are_chunks.ensures ∙ c.if-not-are_chunks.true))

pub returns : goal.returns
returns c =
    let a = c.args in
    let valid = sym c.validate_text.ensures ∙ c.in_ok-validate_text.was in
    laws.passed a.t.now a.rows.now valid (sym c.are_chunks.ensures ∙ c.if-not-are_chunks.false)
