-- Each public contract allows one outcome only: one answer, and one content of the lent output. This is said of the contract as the check
-- reads it off the source, so that a contract which said less would fail here.
-- Assumes nothing.
use Rattle.std.proofs.Common.{◌≡◌, sym, ◌∙◌}
use Rattle.text.proofs.general.Outcomes.{One, Both}
use Rattle.chunk.proofs.texts.LineEnds.{run-once}
use Rattle.chunk.proofs.form.U32FromKind.from.Kinds as number-of-kind-kinds
use Rattle.chunk.proofs.form.U32FromKind.from.Reads as number-of-kind
use Rattle.chunk.proofs.form.kind_from.Kinds as kind-from-kinds
use Rattle.chunk.proofs.form.kind_from.Reads as kind-from
use Rattle.chunk.proofs.form.write_chunk.Kinds as write-chunk-kinds
use Rattle.chunk.proofs.form.write_chunk.Reads as write-chunk
use Rattle.chunk.proofs.form.row_at.Kinds as row-at-kinds
use Rattle.chunk.proofs.form.span_at.Kinds as span-at-kinds
use Rattle.chunk.proofs.form.row_at.Reads as row_at
use Rattle.chunk.proofs.form.span_at.Reads as span-at
use Rattle.chunk.proofs.check.check.Kinds as check-kinds
use Rattle.chunk.proofs.check.check.Reads as check
use Rattle.chunk.proofs.format.format_one.Kinds as format-one-kinds
use Rattle.chunk.proofs.format.format_one.Reads as format-one
use Rattle.chunk.proofs.format.surely_fits.Kinds as surely-fits-kinds
use Rattle.chunk.proofs.format.surely_fits.Reads as surely-fits
use Rattle.chunk.proofs.format.format_verbatim.Kinds as format-verbatim-kinds
use Rattle.chunk.proofs.format.format_verbatim.Reads as format-verbatim
use Rattle.chunk.proofs.sentence.format_sentence.Kinds as format-sentence-kinds
use Rattle.chunk.proofs.sentence.format_sentence.Reads as format-sentence
use Rattle.chunk.proofs.biblatex.is_escapable.Kinds as is-escapable-kinds
use Rattle.chunk.proofs.biblatex.is_escapable.Reads as is-escapable
use Rattle.chunk.proofs.biblatex.to_biblatex_string.Kinds as to-biblatex-string-kinds
use Rattle.chunk.proofs.biblatex.to_biblatex_string.Reads as to-biblatex-string
use Rattle.chunk.proofs.ending.last_at.Kinds as last-at-kinds
use Rattle.chunk.proofs.ending.last_at.Reads as last-at
use Rattle.chunk.proofs.ending.code_at.Kinds as code-at-kinds
use Rattle.chunk.proofs.ending.code_at.Reads as code_at
use Rattle.chunk.proofs.ending.ends_white.Kinds as ends-white-kinds
use Rattle.chunk.proofs.ending.ends_white.Reads as ends-white
use Rattle.chunk.proofs.ending.line_end.Kinds as line-end-kinds
use Rattle.chunk.proofs.ending.line_end.Reads as line-end
use Rattle.chunk.proofs.put.put.Kinds as put-kinds
use Rattle.chunk.proofs.put.put.Reads as put
use Rattle.chunk.proofs.put.copy.Kinds as copy-kinds
use Rattle.chunk.proofs.put.copy.Reads as copy

pub one-U32FromKind : One 0 number-of-kind-kinds.ps number-of-kind-kinds.r number-of-kind.Post
one-U32FromKind κs a x y s t p q = p ∙ sym q

pub one-kind-from : One 0 kind-from-kinds.ps kind-from-kinds.r kind-from.Post
one-kind-from κs a x y s t p q = p ∙ sym q

-- `write_chunk` leaves the same rows
pub one-write-chunk : Both 1 write-chunk-kinds.ps write-chunk-kinds.r write-chunk.Post (λ κs x s y t. s.0.now ≡ t.0.now)
one-write-chunk κs a x y s t p q = p ∙ sym q

-- the same kind, and the same places of the text
pub one-row-at : Both 1 row-at-kinds.ps row-at-kinds.r row_at.Post (λ κs x s y t. (x.kind ≡ y.kind) × (x.from ≡ y.from) × (x.to ≡ y.to))
one-row-at κs a x y s t p q = (p.kind ∙ sym q.kind, p.from ∙ sym q.from, p.to ∙ sym q.to)

-- the same span
pub one-span-at : Both 1 span-at-kinds.ps span-at-kinds.r span-at.Post (λ κs x s y t. (x.start ≡ y.start) × (x.end ≡ y.end))
one-span-at κs a x y s t p q = (p.0 ∙ sym q.0, p.1 ∙ sym q.1)

pub one-check : One 2 check-kinds.ps check-kinds.r check.Post
one-check κs a x y s t p q = p ∙ sym q

-- the same place, flag and bytes
pub one-format-one : Both 2 format-one-kinds.ps format-one-kinds.r format-one.Post
    (λ κs x s y t. (x.at ≡ y.at) × (x.white ≡ y.white) × (s.1.1.1.1.1.0.now ≡ t.1.1.1.1.1.0.now))
one-format-one κs a x y s t p q = (p.0.end ∙ sym q.0.end, p.1.0 ∙ sym q.1.0, p.0.bytes ∙ sym q.0.bytes)

pub one-surely-fits : One 1 surely-fits-kinds.ps surely-fits-kinds.r surely-fits.Post
one-surely-fits κs a x y s t p q = p ∙ sym q

-- every writer gives the same answer and leaves the same bytes
pub one-format-verbatim : Both 3 format-verbatim-kinds.ps format-verbatim-kinds.r format-verbatim.Post
    (λ κs x s y t. (x ≡ y) × (s.1.1.0.now ≡ t.1.1.0.now))
one-format-verbatim κs a x y s t p q = (p.answer ∙ sym q.answer, p.bytes ∙ sym q.bytes)

pub one-format-sentence : Both 3 format-sentence-kinds.ps format-sentence-kinds.r format-sentence.Post
    (λ κs x s y t. (x ≡ y) × (s.1.1.0.now ≡ t.1.1.0.now))
one-format-sentence κs a x y s t p q = (p.answer ∙ sym q.answer, p.bytes ∙ sym q.bytes)

pub one-is-escapable : One 0 is-escapable-kinds.ps is-escapable-kinds.r is-escapable.Post
one-is-escapable κs a x y s t p q = p ∙ sym q

pub one-to-biblatex-string : Both 3 to-biblatex-string-kinds.ps to-biblatex-string-kinds.r to-biblatex-string.Post
    (λ κs x s y t. (x ≡ y) × (s.1.1.1.0.now ≡ t.1.1.1.0.now))
one-to-biblatex-string κs a x y s t p q = (p.answer ∙ sym q.answer, p.bytes ∙ sym q.bytes)

pub one-last-at : One 1 last-at-kinds.ps last-at-kinds.r last-at.Post
one-last-at κs a x y s t p q = p ∙ sym q

pub one-code-at : One 1 code-at-kinds.ps code-at-kinds.r code_at.Post
one-code-at κs a x y s t p q = p ∙ sym q

pub one-ends-white : One 1 ends-white-kinds.ps ends-white-kinds.r ends-white.Post
one-ends-white κs a x y s t p q = p ∙ sym q

-- where the call's places lie in the text, as it asks
pub one-line-end : One 1 line-end-kinds.ps line-end-kinds.r (λ κs a x s. line-end.Pre κs a × line-end.Post κs a x s)
one-line-end κs a x y s t p q = run-once a.0.now a.1.0 a.1.1.0 p.0.1 p.1 q.1

-- the same place, and the same bytes
pub one-put : Both 1 put-kinds.ps put-kinds.r put.Post (λ κs x s y t. (x ≡ y) × (s.0.now ≡ t.0.now))
one-put κs a x y s t p q = (p.0.end ∙ sym q.0.end, p.0.bytes ∙ sym q.0.bytes)

pub one-copy : Both 2 copy-kinds.ps copy-kinds.r copy.Post (λ κs x s y t. (x ≡ y) × (s.1.1.1.0.now ≡ t.1.1.1.0.now))
one-copy κs a x y s t p q = (p.0.end ∙ sym q.0.end, p.0.bytes ∙ sym q.0.bytes)
