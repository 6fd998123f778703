-- `chunk::sentence::format_sentence` meets its contract. Assumes nothing.
use Rattle.std.proofs.Common.{◌≤◌, arith, sym, ◌∙◌, length}
use Rattle.chunk.specs.Chunk.{chunks_of}
use Rattle.chunk.specs.Sentence.{format_sentence}
use Rattle.std.proofs.lemmas.Result.{err_from_is_err_and}
use Rattle.chunk.proofs.rows.Answers as laws
use Rattle.chunk.proofs.WellFormed.{well-formed}
use Rattle.chunk.proofs.sentences.Sizes.{surely-said}
use Rattle.chunk.proofs.sentence.format_sentence.Goals.{else-not-surely_fits, then-not-surely_fits+else-room-end}
use Rattle.chunk.proofs.sentence.format_sentence.Goals as goal

pub returns-in_err-check : goal.returns-in_err-check
returns-in_err-check c =
    let e = err_from_is_err_and c.from_residual.result c.from_residual.ensures.1 in
    rw (e.1, e.2) (laws.refused (sym c.check.ensures ∙ c.in_err-check.was))

pub surely_fits-requires : goal.surely_fits-requires
surely_fits-requires c =
    let a = c.args in
    let passed = laws.are-chunks a.t.now a.rows.now (sym c.check.ensures ∙ c.in_ok-check.was) in
    ((a.t.now, passed.1), omega (arith, c.well_formed.1.1.0.1), omega arith)

pub sentence_all-end-requires : goal.sentence_all-end-requires
sentence_all-end-requires c =
    let a = c.args in
    let passed = laws.are-chunks a.t.now a.rows.now (sym c.check.ensures ∙ c.in_ok-check.was) in
    (passed.1, omega (arith, c.well_formed.1.1.0.1))

pub returns-then-room-end : goal.returns-then-room-end
returns-then-room-end c =
    let passed = sym c.check.ensures ∙ c.in_ok-check.was in
    rw c.nowhere.ensures (laws.no_room passed c.sentence_all-end.ensures c.if-room-end.true)

pub sentence_all-requires : goal.sentence_all-requires
sentence_all-requires c =
    let a = c.args in
    let passed = laws.are-chunks a.t.now a.rows.now (sym c.check.ensures ∙ c.in_ok-check.was) in
    (passed.1, omega (arith, c.well_formed.1.1.0.1))

pub returns : goal.returns
returns c =
    let a = c.args in
    let passed = sym c.check.ensures ∙ c.in_ok-check.was in
    let fits : length (format_sentence (chunks_of a.t.now a.rows.now)) ≤ length a.out.now =
    (elim c.if-not-surely_fits.branch [
      | then-not-surely_fits+else-room-end w ↦ laws.all-fits w.sentence_all-end.ensures w.if-room-end.false
      | else-not-surely_fits w ↦ surely-said a.t.now a.rows.now (well-formed.checked a.t.now a.rows.now passed) (sym c.surely_fits.ensures ∙ w.if-not-surely_fits.false)
    ]) in
    laws.wrote passed fits c.sentence_all.ensures
