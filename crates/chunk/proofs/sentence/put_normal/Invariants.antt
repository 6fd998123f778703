-- The invariants of `chunk::sentence::put_normal`.
use Rattle.std.proofs.Common.{◌-◌}
use Rattle.chunk.proofs.sentences.Saying as laws
use Rattle.chunk.proofs.sentence.put_normal.Given as goal

abbrev pub invariant-loop-i : goal.invariant-loop-i
invariant-loop-i l = laws.Saying l.t l.from l.to l.initial.s.first l.initial.s.white l.initial.out l.initial.s.at l.out l.s.first l.s.white l.i l.s.at

abbrev pub decreases-loop-i : goal.decreases-loop-i
decreases-loop-i l = l.to - l.i
