-- `bib::bib_resolve_field` meets its contract. Assumes nothing.
use Rattle.bib.proofs.telling.Exports.{exported-resolving}
use Rattle.bib.proofs.bib_resolve_field.Goals as goal

pub returns : goal.returns
returns c = exported-resolving c.resolve_field-resolved.ensures c.tell_resolving.ensures
