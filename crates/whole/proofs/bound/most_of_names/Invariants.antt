-- The invariants of `whole::bound::most_of_names`.
use Rattle.row.specs.Numbers.{rows_of}
use Rattle.whole.specs.Bounds.{MonthsMost, SmallMost}
use Rattle.whole.proofs.counting.NamesMost.{DefinedTo}
use Rattle.whole.proofs.bound.most_of_names.Given as goal

-- the months, and the definitions before row i, are within the bound
abbrev pub invariant-loop-i : goal.invariant-loop-i
invariant-loop-i l = MonthsMost l.months l.most × DefinedTo (rows_of l.rows) l.i l.most × SmallMost l.most
