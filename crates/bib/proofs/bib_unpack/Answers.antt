-- `bib::bib_unpack` meets its contract. Assumes nothing.
use Rattle.bib.proofs.telling.Exports.{exported}
use Rattle.bib.proofs.bib_unpack.Goals as goal

pub returns : goal.returns
returns c = let h = c.unpack-unpacked.ensures in exported h.answer h.rows c.tell.ensures
