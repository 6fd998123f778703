-- `bib::bib_pack` meets its contract. Assumes nothing.
use Rattle.bib.proofs.telling.Exports.{exported}
use Rattle.bib.proofs.bib_pack.Goals as goal

pub returns : goal.returns
returns c = let h = c.pack-packed.ensures in exported h.answer h.bytes c.tell.ensures
