-- `turn::turn::opens_at` meets its contract. Assumes nothing.
use Rattle.std.proofs.Common.{refl, sym}
use Rattle.turn.proofs.turn.opens_at.Goals as goal

pub returns-in-None : goal.returns-in-None
returns-in-None c = rw (sym c.peek.ensures.0, c.in-None.is) refl

pub returns-in-Some : goal.returns-in-Some
returns-in-Some c = rw (sym c.peek.ensures.0, c.in-Some.is) refl
