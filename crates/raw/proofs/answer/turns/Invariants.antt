-- The invariants of `raw::answer::turns`.
use Rattle.std.proofs.Common.{◌+◌, ◌*◌, ◌-◌, ◌≤◌, length}
use Rattle.raw.specs.Reader.{many}
use Rattle.raw.proofs.contracts.LoopSays.{LoopLeads}
use Rattle.raw.proofs.answer.turns.Given as goal

abbrev pub invariant-loop-q : goal.invariant-loop-q
invariant-loop-q g l = record {
  from : l.at ≤ l.p;
  to : l.p ≤ length l.piece.text.now;
  few : l.m + 8 * l.at ≤ l.n + 8 * l.p;
  leads : LoopLeads (λ a. g.L.Loop.reader l.of) l.piece.text.now l.piece.base l.p l.m l.rows (many (λ a. g.L.Loop.reader l.of) 0 l.piece.text.now l.at) l.n l.initial.rows;
}

abbrev pub decreases-loop-q : goal.decreases-loop-q
decreases-loop-q g l = length l.piece.text.now - l.p
