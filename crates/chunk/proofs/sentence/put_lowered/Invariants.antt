-- The invariants of `chunk::sentence::put_lowered`.
use Rattle.std.proofs.Common.{◌+◌, ◌≡◌, false, map}
use lib.Seq.{sets}
use Rattle.text.specs.Scan.{part}
use Rattle.casing.specs.Casing.{ascii_cased}
use Rattle.chunk.proofs.sentence.put_lowered.Given as goal

abbrev pub invariant-loop-k : goal.invariant-loop-k
invariant-loop-k l = l.out ≡ sets l.initial.out l.at (map (ascii_cased false) (part l.t l.from (l.from + l.k)))
