-- What the public contracts settle: any two outcomes that one allows are the same. Stated of each contract as the check reads it off the
-- source, so that a contract which said less would fail here.
-- Assumes nothing.
use mathlib.Core.Path.{sym, ◌∙◌}
use Rattle.text.proofs.general.Outcomes.{One}
use Rattle.reader.proofs.seen.Kinds as seen-kinds
use Rattle.reader.proofs.seen.Reads as seen
use Rattle.reader.proofs.after.Kinds as after-kinds
use Rattle.reader.proofs.after.Reads as after
use Rattle.reader.proofs.until.Kinds as until-kinds
use Rattle.reader.proofs.until.Reads as until

pub one_seen : One 1 seen-kinds.ps seen-kinds.r seen.Post
one_seen κs a x y s t p q = p.0 ∙ sym q.0

pub one-after : One 1 after-kinds.ps after-kinds.r after.Post
one-after κs a x y s t p q = p.0 ∙ sym q.0

pub one-until : One 1 until-kinds.ps until-kinds.r until.Post
one-until κs a x y s t p q = p.0 ∙ sym q.0
