-- `bib::bib_resolve_literal` meets its contract. Assumes nothing.
use Rattle.bib.proofs.telling.Exports.{exported-resolving}
use Rattle.bib.proofs.bib_resolve_literal.Goals as goal

pub returns : goal.returns
returns c = exported-resolving c.resolve_literal-resolved.ensures c.tell_resolving.ensures
