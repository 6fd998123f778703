-- `row::mask::step` meets its contract. Assumes nothing.
use Rattle.row.specs.Masks.{step_of}
use Rattle.row.proofs.mask.step.Goals as goal

pub returns-then-is_taken : goal.returns-then-is_taken
unfolding step_of
returns-then-is_taken c = rw (c.after.ensures, ← c.is_taken.ensures, c.if-is_taken.true)

pub returns : goal.returns
unfolding step_of
returns c = rw (← c.is_taken.ensures, c.if-is_taken.false)
