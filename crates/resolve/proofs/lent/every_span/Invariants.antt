-- The invariants of `resolve::lent::every_span`.
use Rattle.std.proofs.Common.{◌*◌, ◌≡◌, drop}
use Rattle.row.specs.Numbers.{rows_of}
use Rattle.resolve.specs.Checks.{every_span}
use Rattle.resolve.proofs.lent.every_span.Given as goal

abbrev pub invariant-loop-start : goal.invariant-loop-start
invariant-loop-start l = every_span l.file (rows_of l.rows) ≡ every_span l.file (rows_of (drop (l.start-index * 4) l.rows))
