-- `lookup::index::chain` meets its contract. Assumes nothing.
use Rattle.std.proofs.Common.{refl}
use Rattle.lookup.proofs.links.LinkWays.{index-none}
use Rattle.lookup.proofs.index.chain.Goals as goal

pub loop-i-init : goal.loop-i-init
loop-i-init c =
    let a = c.args in
    (refl, refl, index-none a.file.now a.rows.now a.heads.now _ a.next.now c.requires c.clear.ensures)
