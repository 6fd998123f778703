-- Each public contract allows one outcome only. This is said of the contract as the check reads it off the source, so that a contract
-- which said less would fail here.
-- Assumes nothing.
use mathlib.Core.Path.{◌≡◌, sym, ◌∙◌}
use Rattle.text.proofs.general.Outcomes.{Both, One}
use Rattle.row.proofs.fault.fault_at.Kinds as fault-at-kinds
use Rattle.row.proofs.fault.fault_at.Reads as fault-at
use Rattle.row.proofs.fault.nowhere.Kinds as nowhere-kinds
use Rattle.row.proofs.fault.nowhere.Reads as nowhere
use Rattle.row.proofs.fault.FaultFromIllFormed.from.Kinds as ill-formed-kinds
use Rattle.row.proofs.fault.FaultFromIllFormed.from.Reads as ill-formed
use Rattle.row.proofs.fault.number.Kinds as number-kinds
use Rattle.row.proofs.fault.number.Reads as number
use Rattle.row.proofs.check.is_detail.Kinds as is-detail-kinds
use Rattle.row.proofs.check.is_detail.Reads as is-detail
use Rattle.row.proofs.check.check.Kinds as check-kinds
use Rattle.row.proofs.check.check.Reads as check
use Rattle.row.proofs.form.U32FromKind.from.Kinds as number-of-kind-kinds
use Rattle.row.proofs.form.U32FromKind.from.Reads as number-of-kind
use Rattle.row.proofs.form.write_numbers.Kinds as write-numbers-kinds
use Rattle.row.proofs.form.write_numbers.Reads as write-numbers
use Rattle.row.proofs.form.write_row.Kinds as write-row-kinds
use Rattle.row.proofs.form.write_row.Reads as write-row
use Rattle.row.proofs.form.put_row.Kinds as put-row-kinds
use Rattle.row.proofs.form.put_row.Reads as put-row
use Rattle.row.proofs.form.copy_numbers.Kinds as copy-numbers-kinds
use Rattle.row.proofs.form.copy_numbers.Reads as copy-numbers
use Rattle.row.proofs.mask.first.Kinds as first-kinds
use Rattle.row.proofs.mask.first.Reads as first
use Rattle.row.proofs.mask.step.Kinds as step-kinds
use Rattle.row.proofs.mask.step.Reads as step
use Rattle.row.proofs.mask.is_whole.Kinds as is-whole-kinds
use Rattle.row.proofs.mask.is_whole.Reads as is_whole

pub one-fault-at : One 0 fault-at-kinds.ps fault-at-kinds.r fault-at.Post
one-fault-at κs a x y s t p q = p ∙ sym q

pub one-nowhere : One 0 nowhere-kinds.ps nowhere-kinds.r nowhere.Post
one-nowhere κs a x y s t p q = p ∙ sym q

pub one-FaultFromIllFormed : One 0 ill-formed-kinds.ps ill-formed-kinds.r ill-formed.Post
one-FaultFromIllFormed κs a x y s t p q = p ∙ sym q

pub one_number : One 0 number-kinds.ps number-kinds.r number.Post
one_number κs a x y s t p q = p ∙ sym q

pub one-is-detail : One 0 is-detail-kinds.ps is-detail-kinds.r is-detail.Post
one-is-detail κs a x y s t p q = p ∙ sym q

pub one-check : One 1 check-kinds.ps check-kinds.r check.Post
one-check κs a x y s t p q = p ∙ sym q

pub one-first : One 0 first-kinds.ps first-kinds.r first.Post
one-first κs a x y s t p q = p ∙ sym q

pub one-step : One 0 step-kinds.ps step-kinds.r step.Post
one-step κs a x y s t p q = p ∙ sym q

pub one-is-whole : One 0 is-whole-kinds.ps is-whole-kinds.r is_whole.Post
one-is-whole κs a x y s t p q = p ∙ sym q

pub one-U32FromKind : One 0 number-of-kind-kinds.ps number-of-kind-kinds.r number-of-kind.Post
one-U32FromKind κs a x y s t p q = p ∙ sym q

-- those that write leave the same numbers
pub one-write-numbers : Both 1 write-numbers-kinds.ps write-numbers-kinds.r write-numbers.Post (λ κs x s y t. s.0.now ≡ t.0.now)
one-write-numbers κs a x y s t p q = p ∙ sym q

pub one-write-row : Both 1 write-row-kinds.ps write-row-kinds.r write-row.Post (λ κs x s y t. s.0.now ≡ t.0.now)
one-write-row κs a x y s t p q = p ∙ sym q

pub one-put-row : Both 1 put-row-kinds.ps put-row-kinds.r put-row.Post (λ κs x s y t. s.0.now ≡ t.0.now)
one-put-row κs a x y s t p q = p ∙ sym q

pub one-copy-numbers : Both 2 copy-numbers-kinds.ps copy-numbers-kinds.r copy-numbers.Post (λ κs x s y t. s.1.1.0.now ≡ t.1.1.0.now)
one-copy-numbers κs a x y s t p q = p ∙ sym q
