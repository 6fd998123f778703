-- The invariants of `command::settle::shift`.
use Rattle.command.proofs.ways.SettleWays as laws
use Rattle.command.proofs.settle.shift.Given as goal

abbrev pub invariant-loop-k : goal.invariant-loop-k
invariant-loop-k l = laws.Moving l.initial.t l.from l.at l.t l.k
