-- What the public contracts settle: any two outcomes that one allows are the same. Stated of each contract as the check reads it off the
-- source, so that a contract which said less would fail here.
--     the same answer                                         `check_file`, `is_span`, `are_lent`, `is_value`, `progress::answer`
--     the same answer, chunk rows and text                    `single`
--     the same chunk rows and text                            `copy_out`
--     the same answer, scratch, chunk rows and text           `resolve_literal`
-- Assumes nothing.
use mathlib.Core.Path.{◌≡◌, sym, ◌∙◌}
use Rattle.text.proofs.general.Outcomes.{Both, One}
use Rattle.resolve.proofs.answer.check_file.Kinds as check-file-kinds
use Rattle.resolve.proofs.answer.check_file.Reads as check-file
use Rattle.resolve.proofs.lent.are_lent.Kinds as are-lent-kinds
use Rattle.resolve.proofs.lent.are_lent.Reads as are-lent
use Rattle.resolve.proofs.lent.is_value.Kinds as is-value-kinds
use Rattle.resolve.proofs.lent.is_value.Reads as is-value
use Rattle.resolve.proofs.one_literal.is_span.Kinds as is-span-kinds
use Rattle.resolve.proofs.one_literal.is_span.Reads as is-span
use Rattle.resolve.proofs.one_literal.single.Kinds as single-kinds
use Rattle.resolve.proofs.one_literal.single.Reads as single
use Rattle.resolve.proofs.one_literal.resolve_literal.Kinds as resolve-literal-kinds
use Rattle.resolve.proofs.one_literal.resolve_literal.Reads as resolve-literal
use Rattle.resolve.proofs.progress.copy_out.Kinds as copy-out-kinds
use Rattle.resolve.proofs.progress.copy_out.Reads as copy-out
use Rattle.resolve.proofs.progress.answer.Kinds as answer-kinds
use Rattle.resolve.proofs.progress.answer.Reads as answer

pub one-check-file : One 1 check-file-kinds.ps check-file-kinds.r check-file.Post
one-check-file κs a x y s t p q = p ∙ sym q

pub one-is-span : One 1 is-span-kinds.ps is-span-kinds.r is-span.Post
one-is-span κs a x y s t p q = p ∙ sym q

pub one-are-lent : One 4 are-lent-kinds.ps are-lent-kinds.r are-lent.Post
one-are-lent κs a x y s t p q = p ∙ sym q

pub one-is-value : One 1 is-value-kinds.ps is-value-kinds.r is-value.Post
one-is-value κs a x y s t p q = p ∙ sym q

pub one_single : Both 5 single-kinds.ps single-kinds.r single.Post
    (λ κs x s y t.
    (x ≡ y) × (s.1.1.1.1.0.now ≡ t.1.1.1.1.0.now) × (s.1.1.1.1.1.0.now ≡ t.1.1.1.1.1.0.now))
one_single κs a x y s t p q = (p.0.answer ∙ sym q.0.answer, p.0.rows ∙ sym q.0.rows, p.0.text ∙ sym q.0.text)

pub one-resolve-literal : Both 4 resolve-literal-kinds.ps resolve-literal-kinds.r resolve-literal.Post
    (λ κs x s y t.
    (x ≡ y) × (s.1.1.1.1.0.now ≡ t.1.1.1.1.0.now) × (s.1.1.1.1.1.0.now ≡ t.1.1.1.1.1.0.now)
    × (s.1.1.1.1.1.1.0.now ≡ t.1.1.1.1.1.1.0.now))
one-resolve-literal κs a x y s t p q = (
  p.writes.answer ∙ sym q.writes.answer,
  p.scratch ∙ sym q.scratch,
  p.writes.rows ∙ sym q.writes.rows,
  p.writes.text ∙ sym q.writes.text,
)

pub one_answer : One 0 answer-kinds.ps answer-kinds.r answer.Post
one_answer κs a x y s t p q = p ∙ sym q

pub one-copy-out : Both 4 copy-out-kinds.ps copy-out-kinds.r copy-out.Post
    (λ κs x s y t. (s.1.1.1.0.now ≡ t.1.1.1.0.now) × (s.1.1.1.1.0.now ≡ t.1.1.1.1.0.now))
one-copy-out κs a x y s t p q = (p.0 ∙ sym q.0, p.1 ∙ sym q.1)
