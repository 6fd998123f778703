-- `salvage::file::valid_to` meets its contract. Assumes nothing.
use Rattle.salvage.proofs.ways.SalvageFile.{valid-all, valid-part}
use Rattle.salvage.proofs.file.valid_to.Goals as goal

pub returns-in-Ok : goal.returns-in-Ok
returns-in-Ok c = valid-all c.args.s.now c.in-Ok.ensures

pub returns-in-Err : goal.returns-in-Err
returns-in-Err c = valid-part c.args.s.now c.in-Err.ensures
