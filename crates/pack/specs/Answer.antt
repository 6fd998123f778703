-- How `pack` and `unpack` answer [01:Numbers a caller can get]: 17 where the input is refused, then 16 where too little is lent, else a
-- count.
-- Assumes nothing.
use Rattle.row.specs.declared.fault.Fault.{Fault}
use Rattle.std.specs.Prelude.{ℕ, Bool, cond, List, Result, Ok, Err}
use Rattle.row.specs.declared.fault.Reason.TheVariants.{BadRows, NoRoom}
use Rattle.row.specs.Fault.{nowhere}

-- whether the input is accepted, whether enough is lent, and the count
abbrev pub answer_of : Bool → Bool → ℕ → Result ℕ Fault
answer_of accepted room n = cond accepted (cond room (Ok n) (Err (nowhere NoRoom))) (Err (nowhere BadRows))

-- what is left of the lent list: the written one, or the old one
abbrev pub left_of : Bool → Bool → List ℕ → List ℕ → List ℕ
left_of accepted room written old = cond accepted (cond room written old) old
