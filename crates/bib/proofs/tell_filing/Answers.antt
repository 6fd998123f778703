-- `bib::tell_filing` meets its contract. Assumes nothing.
use mathlib.Core.Path.{refl}
use Rattle.bib.proofs.telling.Exports.{told-filing}
use Rattle.bib.proofs.tell_filing.Goals as goal

pub returns-in-Ok : goal.returns-in-Ok
returns-in-Ok c = told-filing c.in-Ok.is c.tell.ensures refl refl

pub returns-in-Err : goal.returns-in-Err
returns-in-Err c = told-filing c.in-Err.is c.tell-in-Err.ensures refl refl
