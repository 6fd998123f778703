-- `bib::bib_resolve_file` meets its contract. Assumes nothing.
use Rattle.bib.proofs.telling.Exports.{exported-file}
use Rattle.bib.proofs.bib_resolve_file.Goals as goal

pub returns : goal.returns
returns c = exported-file c.resolve_file-filed.ensures c.tell_filing.ensures
