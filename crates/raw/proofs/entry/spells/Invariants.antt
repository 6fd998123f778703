-- The invariants of `raw::entry::spells`.
use Rattle.std.proofs.Common.{◌+◌, ◌≡◌, drop}
use Rattle.raw.specs.Grammar.{spells}
use Rattle.raw.proofs.entry.spells.Given as goal

abbrev pub invariant-loop-k : goal.invariant-loop-k
invariant-loop-k l = spells l.word l.s l.at l.end ≡ spells (drop l.k l.word) l.s (l.at + l.k) l.end
