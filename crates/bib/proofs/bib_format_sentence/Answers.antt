-- `bib::bib_format_sentence` meets its contract. Assumes nothing.
use Rattle.bib.proofs.telling.Exports.{exported}
use Rattle.bib.proofs.bib_format_sentence.Goals as goal

pub returns : goal.returns
returns c =
    let h = c.format_sentence-said.ensures in
    exported h.answer h.bytes c.tell.ensures
