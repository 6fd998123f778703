-- What the public contract settles: any two outcomes that it allows are the same. Stated of the contract as the check reads it off the source,
-- so that a contract which said less would fail here.
--     the same answer, and the same scratch, index, answers, chunk rows and text      `resolve_file`
-- Assumes nothing.
use mathlib.Core.Path.{◌≡◌, sym, ◌∙◌}
use Rattle.text.proofs.general.Outcomes.{Both}
use Rattle.whole.proofs.file.resolve_file.Kinds as kinds
use Rattle.whole.proofs.file.resolve_file.Reads as resolve-file

-- the scratch comes sixth
pub one-resolve-file : Both 11 kinds.ps kinds.r resolve-file.Post
    (λ κs x s y t.
    let a = s.1.1.1.1.1 in
    let b = t.1.1.1.1.1 in
    let c = a.1.1.1 in
    let d = b.1.1.1 in
    (x ≡ y) × (a.0.now ≡ b.0.now) × (a.1.0.now ≡ b.1.0.now) × (a.1.1.0.now ≡ b.1.1.0.now)
    × (c.0.now ≡ d.0.now) × (c.1.0.now ≡ d.1.0.now) × (c.1.1.0.now ≡ d.1.1.0.now))
one-resolve-file κs a x y s t p q = (
  p.writes.answer ∙ sym q.writes.answer,
  p.scratch ∙ sym q.scratch,
  p.heads ∙ sym q.heads,
  p.next ∙ sym q.next,
  p.writes.answers ∙ sym q.writes.answers,
  p.writes.chunks ∙ sym q.writes.chunks,
  p.writes.text ∙ sym q.writes.text,
)
