-- The invariants of `whole::bound::most_of_months`.
use Rattle.whole.specs.Bounds.{SmallMost}
use Rattle.whole.proofs.counting.NamesMost.{MonthsTo}
use Rattle.whole.proofs.bound.most_of_months.Given as goal

-- the texts of the months so far are within the bound
abbrev pub invariant-loop-month : goal.invariant-loop-month
invariant-loop-month l = MonthsTo l.months l.month-index l.most × SmallMost l.most
