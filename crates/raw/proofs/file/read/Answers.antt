-- `raw::file::read` meets its contract. Assumes nothing.
use Rattle.raw.proofs.ways.FileWays.{read-long}
use Rattle.raw.proofs.file.read.Goals as goal

pub returns-then-s-gt-MOST_BYTES : goal.returns-then-s-gt-MOST_BYTES
returns-then-s-gt-MOST_BYTES c = let a = c.args in rw c.nowhere.ensures (read-long a.s.now a.rows.now c.if-s-gt-MOST_BYTES.true)
