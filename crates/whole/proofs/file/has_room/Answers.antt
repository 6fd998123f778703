-- `whole::file::has_room` meets its contract. Assumes nothing.
use mathlib.Core.Path.{sym}
use Rattle.whole.proofs.ways.ValueWays.{filing-on}
use Rattle.whole.proofs.file.has_room.Goals as goal

pub returns-then-surely_has_room : goal.returns-then-surely_has_room
returns-then-surely_has_room c = sym (c.surely_has_room.ensures c.if-surely_has_room.true)

pub counted_fits-requires : goal.counted_fits-requires
counted_fits-requires c =
    let a = c.args in
    filing-on a.resolver.now a.flags.now a.scratch.now
    _ c.requires c.surely_has_room.auto.scratch
