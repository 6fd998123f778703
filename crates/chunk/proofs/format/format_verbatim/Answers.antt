-- `chunk::format::format_verbatim` meets its contract. Assumes nothing.
use Rattle.std.proofs.Common.{◌≤◌, arith, sym, ◌∙◌, length}
use Rattle.chunk.specs.Chunk.{chunks_of}
use Rattle.chunk.specs.Format.{format_verbatim}
use Rattle.std.proofs.lemmas.Result.{err_from_is_err_and}
use Rattle.chunk.proofs.rows.Answers as laws
use Rattle.chunk.proofs.passes.Bounds.{surely}
use Rattle.chunk.proofs.format.format_verbatim.Goals.{else-not-surely_fits, then-not-surely_fits+else-room-end}
use Rattle.chunk.proofs.format.format_verbatim.Goals as goal

pub returns-in_err-check : goal.returns-in_err-check
returns-in_err-check c =
    let e = err_from_is_err_and c.from_residual.result c.from_residual.ensures.1 in
    rw (e.1, e.2) (laws.refused (sym c.check.ensures ∙ c.in_err-check.was))

pub surely_fits-requires : goal.surely_fits-requires
surely_fits-requires c =
    let a = c.args in
    let passed = laws.are-chunks a.t.now a.rows.now (sym c.check.ensures ∙ c.in_ok-check.was) in
    ((a.t.now, passed.1), omega (arith, c.well_formed.1.1.0.1), omega arith)

pub format_all-end-requires : goal.format_all-end-requires
format_all-end-requires c =
    let a = c.args in
    let passed = laws.are-chunks a.t.now a.rows.now (sym c.check.ensures ∙ c.in_ok-check.was) in
    (passed.1, omega (arith, c.well_formed.1.1.0.1))

pub returns-then-room-end : goal.returns-then-room-end
returns-then-room-end c =
    let passed = sym c.check.ensures ∙ c.in_ok-check.was in
    rw c.nowhere.ensures (laws.no_room passed c.format_all-end.ensures c.if-room-end.true)

pub format_all-requires : goal.format_all-requires
format_all-requires c =
    let a = c.args in
    let passed = laws.are-chunks a.t.now a.rows.now (sym c.check.ensures ∙ c.in_ok-check.was) in
    (passed.1, omega (arith, c.well_formed.1.1.0.1))

pub returns : goal.returns
returns c =
    let a = c.args in
    let passed = sym c.check.ensures ∙ c.in_ok-check.was in
    let fits : length (format_verbatim (chunks_of a.t.now a.rows.now)) ≤ length a.out.now =
    (elim c.if-not-surely_fits.branch [
      | then-not-surely_fits+else-room-end w ↦ laws.all-fits w.format_all-end.ensures w.if-room-end.false
      | else-not-surely_fits w ↦ surely a.t.now a.rows.now (sym c.surely_fits.ensures ∙ w.if-not-surely_fits.false)
    ]) in
    laws.wrote passed fits c.format_all.ensures
