-- `whole::file::is_value` meets its contract. Assumes nothing.
use Rattle.whole.proofs.counting.RowKinds.{kind-of}
use Rattle.whole.proofs.file.is_value.Goals as goal

pub returns : goal.returns
returns c = let a = c.args in kind-of a.rows.now a.i c.requires
