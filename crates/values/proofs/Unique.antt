-- Each contract of this crate that gives an answer alone allows one answer only. This is said of the contract as the check reads it off the
-- source, so that a contract which said less would fail here.
-- Assumes nothing.
use mathlib.Core.Path.{sym, ◌∙◌}
use Rattle.text.proofs.general.Outcomes.{One}
use Rattle.values.proofs.elements.element_at.Kinds as element-at-kinds
use Rattle.values.proofs.elements.element_at.Reads as element-at
use Rattle.values.proofs.elements.only_literal.Kinds as only-literal-kinds
use Rattle.values.proofs.elements.only_literal.Reads as only-literal

pub one-element-at : One 1 element-at-kinds.ps element-at-kinds.r element-at.Post
one-element-at κs a x y s t p q = p ∙ sym q

pub one-only-literal : One 1 only-literal-kinds.ps only-literal-kinds.r only-literal.Post
one-only-literal κs a x y s t p q = p ∙ sym q
