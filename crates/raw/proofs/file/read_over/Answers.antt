-- `raw::file::read_over` meets its contract. Assumes nothing.
use Rattle.std.proofs.Common.{arith}
use Rattle.raw.proofs.ways.FileWays.{read-copied, read_fits}
use Rattle.raw.proofs.file.read_over.Goals as goal

pub returns-then-n-few : goal.returns-then-n-few
returns-then-n-few c =
    let a = c.args in
    read-copied a.s.now a.rows.now c.in_ok-n.ensures.says c.if-rows-n.false
    (omega (arith, c.if-n-few.true, c.parse_bytes.auto.rows)) c.copy_numbers.ensures

pub returns : goal.returns
returns c = let a = c.args in read_fits a.s.now a.rows.now c.in_ok-n.ensures.says c.if-rows-n.false c.parse.ensures.says
