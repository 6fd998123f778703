-- `bib::bib_to_biblatex_string` meets its contract. Assumes nothing.
use Rattle.bib.proofs.telling.Exports.{exported}
use Rattle.bib.proofs.bib_to_biblatex_string.Goals as goal

pub returns : goal.returns
returns c =
    let h = c.to_biblatex_string-written.ensures in
    exported h.answer h.bytes c.tell.ensures
