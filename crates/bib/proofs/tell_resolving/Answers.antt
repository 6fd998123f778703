-- `bib::tell_resolving` meets its contract. Assumes nothing.
use mathlib.Core.Path.{refl}
use Rattle.bib.proofs.telling.Exports.{told-resolving}
use Rattle.bib.proofs.tell_resolving.Goals as goal

pub returns-in-Ok : goal.returns-in-Ok
returns-in-Ok c = told-resolving c.in-Ok.is c.tell.ensures refl refl

pub returns-in-Err : goal.returns-in-Err
returns-in-Err c = told-resolving c.in-Err.is c.tell-in-Err.ensures refl refl
