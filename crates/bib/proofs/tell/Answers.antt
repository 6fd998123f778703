-- `bib::tell` meets its contract. Assumes nothing.
use mathlib.Core.Path.{refl}
use borrow.Author.Rules.{rules}
use Rattle.bib.proofs.telling.Exports.{told-refused}
use Rattle.bib.proofs.tell.Goals as goal

pub returns-in-Ok : goal.returns-in-Ok
returns-in-Ok c = search rules

pub returns-in-Err : goal.returns-in-Err
returns-in-Err c = told-refused c.in-Err.is c.number.ensures refl refl
