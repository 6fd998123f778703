-- `salvage::file::salvage` meets its contract. Assumes nothing.
use Rattle.salvage.proofs.ways.SalvageFile.{salvage-long, salvage-full, salvage-strictly, salvage-fills}
use Rattle.salvage.proofs.file.salvage.Goals as goal

pub returns-then-s-gt-MOST_BYTES : goal.returns-then-s-gt-MOST_BYTES
returns-then-s-gt-MOST_BYTES c = let a = c.args in rw c.nowhere.ensures (salvage-long a.s.now a.rows.now c.if-s-gt-MOST_BYTES.true)

pub returns-then-rows-n : goal.returns-then-rows-n
returns-then-rows-n c =
    let a = c.args in
    rw c.nowhere-then-rows-n.ensures
    (salvage-full a.s.now a.rows.now c.if-s-gt-MOST_BYTES.false c.read_pieces-tally.ensures c.if-rows-n.true)

pub returns-then-tally : goal.returns-then-tally
returns-then-tally c =
    let a = c.args in
    salvage-strictly a.s.now a.rows.now c.if-s-gt-MOST_BYTES.false c.read_pieces-tally.ensures c.if-rows-n.false c.if-tally.true
    c.parse.ensures.says

pub returns-else-tally : goal.returns-else-tally
returns-else-tally c =
    let a = c.args in
    salvage-fills a.s.now a.rows.now c.if-s-gt-MOST_BYTES.false c.read_pieces-tally.ensures c.if-rows-n.false c.read_pieces.ensures
