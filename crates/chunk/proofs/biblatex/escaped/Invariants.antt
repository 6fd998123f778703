-- The invariants of `chunk::biblatex::escaped`.
use Rattle.std.proofs.Common.{◌+◌, ◌*◌, ◌≤◌, take}
use Rattle.chunk.specs.Format.{escaped}
use Rattle.chunk.specs.Put.{Puts}
use Rattle.chunk.proofs.biblatex.escaped.Given as goal

abbrev pub invariant-loop-b : goal.invariant-loop-b
invariant-loop-b l = Puts l.initial.out l.at (escaped l.verb (take l.b-index l.b-items)) l.j l.out × (l.j ≤ l.at + 2 * l.b-index)
