-- `turn::turn::ends_text` meets its contract. Assumes nothing.
use Rattle.std.proofs.Common.{ap, Bool, ◌||◌, eqb}
use Rattle.turn.proofs.turn.ends_text.Goals as goal

pub returns : goal.returns
returns c = ap (λ (w : Bool). eqb c.args.b 0x5C || w) c.is_sign.ensures
