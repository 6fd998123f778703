-- Each contract of this crate that gives an answer alone allows one answer only. This is said of the contract as the check reads it off the
-- source, so that a contract which said less would fail here.
-- Assumes nothing.
use Rattle.std.proofs.Common.{sym, ◌∙◌}
use Rattle.text.proofs.general.Outcomes.{One}
use Rattle.turn.proofs.turn.sign_at.Kinds as sign-at-kinds
use Rattle.turn.proofs.turn.sign_at.Reads as sign_at

pub one-sign-at : One 1 sign-at-kinds.ps sign-at-kinds.r sign_at.Post
one-sign-at κs a x y s t p q = p ∙ sym q
