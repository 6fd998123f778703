-- The invariants of `pack::packing::is_packable`.
use Rattle.std.proofs.Common.{◌*◌, drop}
use Rattle.row.specs.Numbers.{rows_of}
use Rattle.pack.specs.Seven.{span_fits}
use Rattle.pack.specs.Pack.{is_packable}
use Rattle.pack.proofs.loops.Judging.{Judging}
use Rattle.pack.proofs.packing.is_packable.Given as goal

abbrev pub invariant-loop-kind : goal.invariant-loop-kind
invariant-loop-kind l = Judging span_fits (is_packable l.rows) l.masks (rows_of (drop (l.kind-index * 4) l.rows))
