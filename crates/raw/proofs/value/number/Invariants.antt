-- The invariants of `raw::value::number`.
use Rattle.raw.specs.Grammar.{number_turn}
use Rattle.raw.proofs.ways.ByteLoops.{Reached}
use Rattle.raw.proofs.ways.ByteTurns.{dotted}
use Rattle.raw.proofs.value.number.Given as goal

abbrev pub invariant-loop-i : goal.invariant-loop-i
invariant-loop-i l = Reached number_turn l.s l.at (dotted l.dot) l.i
