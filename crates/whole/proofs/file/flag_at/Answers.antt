-- `whole::file::flag_at` meets its contract. Assumes nothing.
use Rattle.whole.proofs.counting.RowKinds.{flag-of}
use Rattle.whole.proofs.file.flag_at.Goals as goal

pub returns : goal.returns
returns c = let a = c.args in flag-of a.flags.now a.k c.requires
