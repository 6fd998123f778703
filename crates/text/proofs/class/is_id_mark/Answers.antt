-- `text::class::is_id_mark` meets its contract. Assumes nothing.
use Rattle.text.proofs.scanning.Masks.{thirteen}
use Rattle.text.proofs.class.is_id_mark.Goals as goal

pub returns : goal.returns
returns c = rw thirteen
