-- `text::block::Set::distance` meets its contract. Assumes nothing.
use Rattle.text.proofs.scanning.Blocks.{distance_none}
use Rattle.text.proofs.block.Set.distance.Goals as goal

pub returns : goal.returns
returns c =
    let a = c.args in
    distance_none a.self a.b c.apart-3.ensures c.apart-2.ensures c.apart.ensures c.min.ensures c.min-2.ensures
