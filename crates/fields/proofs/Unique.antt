-- What the public contracts settle: any two outcomes that one allows are the same. Stated of each contract as the check reads it off the
-- source, so that a contract which said less would fail here.
--     the same answer, scratch, chunk rows and text           `resolve_field`
--     the same answer, chunk rows and text                    `write`
-- Assumes nothing.
use mathlib.Core.Path.{◌≡◌, sym, ◌∙◌}
use Rattle.text.proofs.general.Outcomes.{Both}
use Rattle.fields.proofs.field.resolve_field.Kinds as resolve-field-kinds
use Rattle.fields.proofs.field.resolve_field.Reads as resolve-field
use Rattle.fields.proofs.field.write.Kinds as write-kinds
use Rattle.fields.proofs.field.write.Reads as write

pub one-resolve-field : Both 7 resolve-field-kinds.ps resolve-field-kinds.r resolve-field.Post
    (λ κs x s y t.
    (x ≡ y) × (s.1.1.1.1.1.1.0.now ≡ t.1.1.1.1.1.1.0.now)
    × (s.1.1.1.1.1.1.1.0.now ≡ t.1.1.1.1.1.1.1.0.now)
    × (s.1.1.1.1.1.1.1.1.0.now ≡ t.1.1.1.1.1.1.1.1.0.now))
one-resolve-field κs a x y s t p q = (
  p.writes.answer ∙ sym q.writes.answer,
  p.scratch ∙ sym q.scratch,
  p.writes.rows ∙ sym q.writes.rows,
  p.writes.text ∙ sym q.writes.text,
)

-- the chunk rows come fifth
pub one-write : Both 6 write-kinds.ps write-kinds.r write.Post
    (λ κs x s y t.
    let a = s.1.1.1.1 in
    let b = t.1.1.1.1 in
    (x ≡ y) × (a.0.now ≡ b.0.now) × (a.1.0.now ≡ b.1.0.now))
one-write κs a x y s t p q = (p.0.answer ∙ sym q.0.answer, p.0.rows ∙ sym q.0.rows, p.0.text ∙ sym q.0.text)
