-- `bib::bib_salvage` meets its contract. Assumes nothing.
use Rattle.bib.proofs.telling.Exports.{exported}
use Rattle.bib.proofs.bib_salvage.Goals as goal

pub returns : goal.returns
returns c = let h = c.salvage-salvaged.ensures in exported h.answer h.rows c.tell.ensures
