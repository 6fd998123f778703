-- `raw::entry::preamble` meets its contract. Assumes nothing.
use Rattle.raw.proofs.contracts.SaysLaws.{says-exit}
use Rattle.raw.proofs.ways.EntryWays.{preamble-off, preamble-on}
use Rattle.raw.proofs.entry.preamble.Goals as goal

pub returns-in_err-p1-clause-says : goal.returns-in_err-p1-clause-says
returns-in_err-p1-clause-says c =
    let a = c.args in
    says-exit (preamble-off a.piece.text.now a.at c.in_err-p1.ensures.0) c.from_residual.result c.from_residual.ensures.1

pub returns-clause-says : goal.returns-clause-says
returns-clause-says c = let a = c.args in preamble-on a.piece.text.now a.at c.in_ok-p1.ensures.0 c.put_row.ensures
