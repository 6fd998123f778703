-- The invariants of `lookup::plain::find`.
use Rattle.lookup.proofs.rows.PlainSearch.{Left}
use Rattle.lookup.proofs.plain.find.Given as goal

abbrev pub invariant-loop-i : goal.invariant-loop-i
invariant-loop-i l = Left l.file l.name l.rows l.i
