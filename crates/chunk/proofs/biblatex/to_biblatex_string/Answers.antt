-- `chunk::biblatex::to_biblatex_string` meets its contract. Assumes nothing.
use Rattle.std.proofs.Common.{arith, sym, ◌∙◌}
use Rattle.std.proofs.lemmas.Result.{err_from_is_err_and}
use Rattle.chunk.proofs.rows.Answers as laws
use Rattle.chunk.proofs.biblatex.to_biblatex_string.Goals as goal

pub returns-in_err-check : goal.returns-in_err-check
returns-in_err-check c =
    let e = err_from_is_err_and c.from_residual.result c.from_residual.ensures.1 in
    rw (e.1, e.2) (laws.refused (sym c.check.ensures ∙ c.in_err-check.was))

pub write_all-end-requires : goal.write_all-end-requires
write_all-end-requires c =
    let a = c.args in
    let passed = laws.are-chunks a.t.now a.rows.now (sym c.check.ensures ∙ c.in_ok-check.was) in
    (passed.1, omega (arith, c.well_formed.1.1.1.0.1))

pub returns-then-room-end : goal.returns-then-room-end
returns-then-room-end c =
    let passed = sym c.check.ensures ∙ c.in_ok-check.was in
    rw c.nowhere.ensures (laws.no_room passed c.write_all-end.ensures c.if-room-end.true)

pub write_all-requires : goal.write_all-requires
write_all-requires c =
    let a = c.args in
    let passed = laws.are-chunks a.t.now a.rows.now (sym c.check.ensures ∙ c.in_ok-check.was) in
    (passed.1, omega (arith, c.well_formed.1.1.1.0.1))

pub returns : goal.returns
returns c =
    let passed = sym c.check.ensures ∙ c.in_ok-check.was in
    laws.wrote passed (laws.all-fits c.write_all-end.ensures c.if-room-end.false) c.write_all.ensures
