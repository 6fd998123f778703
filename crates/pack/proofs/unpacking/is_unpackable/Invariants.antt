-- The invariants of `pack::unpacking::is_unpackable`.
use Rattle.std.proofs.Common.{◌*◌, drop}
use Rattle.pack.specs.Seven.{unpacking, end_fits}
use Rattle.pack.specs.Unpack.{is_unpackable}
use Rattle.pack.proofs.loops.Judging.{Judging}
use Rattle.pack.proofs.unpacking.is_unpackable.Given as goal

abbrev pub invariant-loop-seven : goal.invariant-loop-seven
invariant-loop-seven l = Judging end_fits (is_unpackable l.bytes) l.masks (unpacking (drop (l.seven-index * 7) l.bytes))
