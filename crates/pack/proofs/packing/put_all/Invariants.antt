-- The invariants of `pack::packing::put_all`.
use Rattle.std.proofs.Common.{◌*◌, drop}
use Rattle.row.specs.Numbers.{rows_of}
use Rattle.pack.proofs.bytes.AcceptedInput.{AllInSeven}
use Rattle.pack.proofs.loops.RowWriting.{Packing}
use Rattle.pack.proofs.packing.put_all.Given as goal

abbrev pub invariant-loop-k : goal.invariant-loop-k
invariant-loop-k l = AllInSeven (rows_of (drop (l.k * 4) l.rows)) × Packing l.rows l.initial.bytes l.k l.bytes
