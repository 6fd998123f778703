-- `row::check::next` meets its contract. Assumes nothing.
use Prim.Native.Nat.{ℕ}
use mathlib.Core.Path.{◌∙◌}
use mathlib.Core.Bool.{Bool, true, false, ◌||◌}
use lib.Dec.{eqb}
use Rattle.row.specs.Rules.{next, part, key, chunk, chunks}
use Rattle.row.proofs.rules.CheckTurns.{or-wrong}
use Rattle.row.proofs.check.next.Goals as goal

abbrev chunky : ℕ → Bool
chunky n = eqb n 6 || eqb n 7

pub returns-then-kind : goal.returns-then-kind
unfolding next
returns-then-kind c = rw (c.in-Chunks.is, c.if-kind.true)

pub returns-in-Part : goal.returns-in-Part
unfolding next
returns-in-Part c = rw c.in-Part.is c.begun.ensures

pub returns-in-Type : goal.returns-in-Type
unfolding next
returns-in-Type c = rw c.in-Type.is (c.or_wrong.ensures ∙ or-wrong (eqb c.args.kind 2) key)

pub returns-in-Key : goal.returns-in-Key
unfolding next
returns-in-Key c = rw c.in-Key.is (c.or_wrong-in-Key.ensures ∙ or-wrong (eqb c.args.kind 3) (part true))

pub returns-in-Value : goal.returns-in-Value
unfolding next
returns-in-Value c =
    let a = c.args in
    rw c.in-Value.is (c.or_wrong-in-Value.ensures ∙ or-wrong (eqb a.kind 5) (chunk c.in-Value.field))

pub returns-in-Chunk : goal.returns-in-Chunk
unfolding next
returns-in-Chunk c =
    let a = c.args in
    rw c.in-Chunk.is (c.or_wrong-in-Chunk.ensures ∙ or-wrong (chunky a.kind) (chunks c.in-Chunk.field))

pub returns-else-kind : goal.returns-else-kind
unfolding next
returns-else-kind c = rw (c.in-Chunks.is, c.if-kind.false) c.begun-in-Chunks.ensures

pub returns-in-Cause : goal.returns-in-Cause
unfolding next
returns-in-Cause c = rw c.in-Cause.is (c.or_wrong-in-Cause.ensures ∙ or-wrong (eqb c.args.kind 10) (part false))

pub returns-in-Wrong : goal.returns-in-Wrong
unfolding next
returns-in-Wrong c = rw c.in-Wrong.is
