-- `text::class::is_id_continue` meets its contract. Assumes nothing.
use Rattle.text.specs.Class.{is_id_continue}
use Rattle.text.proofs.class.is_id_continue.Goals as goal

pub returns : goal.returns
unfolding is_id_continue
returns c = cc
