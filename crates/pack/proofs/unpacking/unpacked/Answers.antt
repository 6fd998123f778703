-- `pack::unpacking::unpacked` meets its contract. Assumes nothing.
use Rattle.std.proofs.Common.{refl}
use Rattle.pack.proofs.unpacking.unpacked.Goals as goal

pub returns : goal.returns
returns c = rw (c.from-head.ensures, c.three-start.ensures.0, c.three.ensures.0) refl
