-- `turn::turn::name_end` meets its contract. Assumes nothing.
use Rattle.std.proofs.Common.{arith, refl, sym}
use Rattle.turn.proofs.turn.name_end.Goals as goal

pub returns-then-is_single_char_func : goal.returns-then-is_single_char_func
returns-then-is_single_char_func c = (rw (sym c.is_single_char_func.ensures, c.if-is_single_char_func.true) refl, record { from = omega arith; to = omega arith })

pub returns : goal.returns
returns c = (rw (sym c.is_single_char_func.ensures, c.if-is_single_char_func.false) c.eat_id.ensures.0, c.eat_id.ensures.1)
