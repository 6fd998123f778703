-- The invariants of `resolve::lent::are_months`.
use Rattle.std.proofs.Common.{◌*◌, ◌≡◌, drop}
use Rattle.row.specs.Numbers.{rows_of}
use Rattle.resolve.specs.Checks.{every_month, are_months}
use Rattle.resolve.proofs.lent.are_months.Given as goal

abbrev pub invariant-loop-from : goal.invariant-loop-from
invariant-loop-from l = are_months l.months l.words ≡ every_month l.words (rows_of (drop (l.from-index * 4) l.months))
