-- `bib::bib_read` meets its contract. Assumes nothing.
use Rattle.bib.proofs.telling.Exports.{exported}
use Rattle.bib.proofs.bib_read.Goals as goal

pub returns : goal.returns
returns c = let h = c.read-reading.ensures in exported h.answer h.rows c.tell.ensures
