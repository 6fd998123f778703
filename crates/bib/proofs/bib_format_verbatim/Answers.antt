-- `bib::bib_format_verbatim` meets its contract. Assumes nothing.
use Rattle.bib.proofs.telling.Exports.{exported}
use Rattle.bib.proofs.bib_format_verbatim.Goals as goal

pub returns : goal.returns
returns c =
    let h = c.format_verbatim-formatted.ensures in
    exported h.answer h.bytes c.tell.ensures
