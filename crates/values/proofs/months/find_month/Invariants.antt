-- The invariants of `values::months::find_month`.
use Rattle.std.proofs.Common.{◌*◌, drop}
use Rattle.row.specs.Numbers.{rows_of}
use Rattle.values.proofs.naming.MonthSearch.{Seeking}
use Rattle.values.proofs.months.find_month.Given as goal

abbrev pub invariant-loop-from : goal.invariant-loop-from
invariant-loop-from l = Seeking l.months l.words l.name (rows_of (drop (l.from-index * 4) l.months))
