-- Each public contract allows one outcome only: one answer, and one content of the lent output. This is said of the contract as the check
-- reads it off the source, so that a contract which said less would fail here.
-- Assumes nothing.
use Rattle.std.proofs.Common.{◌≡◌, sym, ◌∙◌}
use Rattle.text.proofs.general.Outcomes.{Both}
use Rattle.pack.proofs.packing.pack.Kinds as pack-kinds
use Rattle.pack.proofs.packing.pack.Reads as pack
use Rattle.pack.proofs.unpacking.unpack.Kinds as unpack-kinds
use Rattle.pack.proofs.unpacking.unpack.Reads as unpack

-- the same answer, and the same bytes or rows
pub one-pack : Both 2 pack-kinds.ps pack-kinds.r pack.Post (λ κs x s y t. (x ≡ y) × (s.1.0.now ≡ t.1.0.now))
one-pack κs a x y s t p q = (p.answer ∙ sym q.answer, p.bytes ∙ sym q.bytes)

pub one-unpack : Both 2 unpack-kinds.ps unpack-kinds.r unpack.Post (λ κs x s y t. (x ≡ y) × (s.1.0.now ≡ t.1.0.now))
one-unpack κs a x y s t p q = (p.answer ∙ sym q.answer, p.rows ∙ sym q.rows)
