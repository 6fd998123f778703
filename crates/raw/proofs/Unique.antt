-- Each public contract allows one outcome only. This is said of the contract as the check reads it off the source, so that a contract
-- which said less would fail here.
--     the same answer and the same rows                               `read`
--     the same answer                                                 the readers without rows: the tokens and `string`; `culprit`
--     the same answer, and the same rows unless it is a refusal       the readers with rows: `parse`, `entry`, `fields`, `abbr_field`
-- After a refusal the readers with rows say nothing of the lent numbers, since `read` counts over no numbers first (specs/Says.antt).
-- Assumes nothing.
use Rattle.std.proofs.Common.{Result, Ok, Err, ℕ, ◌≡◌, sym, ◌∙◌, subst, List}
use Rattle.row.specs.declared.fault.Fault.{Fault}
use Rattle.text.proofs.general.Outcomes.{Both, One}
use Rattle.raw.specs.Reader.{ok, again, bad}
use Rattle.raw.specs.Reader as reader
use Rattle.raw.specs.Says.{answer_of, RowsLaid, Says}
use Rattle.raw.proofs.file.read.Kinds as read-kinds
use Rattle.raw.proofs.file.read.Reads as read
use Rattle.raw.proofs.file.culprit.Kinds as culprit-kinds
use Rattle.raw.proofs.file.culprit.Reads as culprit
use Rattle.raw.proofs.file.parse.Kinds as parse-kinds
use Rattle.raw.proofs.file.parse.Reads as parse
use Rattle.raw.proofs.entry.entry.Kinds as entry-kinds
use Rattle.raw.proofs.entry.entry.Reads as entry
use Rattle.raw.proofs.field.fields.Kinds as fields-kinds
use Rattle.raw.proofs.field.fields.Reads as fields
use Rattle.raw.proofs.value.abbr_field.Kinds as abbr-field-kinds
use Rattle.raw.proofs.value.abbr_field.Reads as abbr-field
use Rattle.raw.proofs.token.comma.Kinds as comma-kinds
use Rattle.raw.proofs.token.comma.Reads as comma
use Rattle.raw.proofs.token.at_sign.Kinds as at-sign-kinds
use Rattle.raw.proofs.token.at_sign.Reads as at_sign
use Rattle.raw.proofs.token.opening.Kinds as opening-kinds
use Rattle.raw.proofs.token.opening.Reads as opening
use Rattle.raw.proofs.token.closing.Kinds as closing-kinds
use Rattle.raw.proofs.token.closing.Reads as closing
use Rattle.raw.proofs.token.quote.Kinds as quote-kinds
use Rattle.raw.proofs.token.quote.Reads as quote
use Rattle.raw.proofs.token.equals.Kinds as equals-kinds
use Rattle.raw.proofs.token.equals.Reads as equals
use Rattle.raw.proofs.token.ident.Kinds as ident-kinds
use Rattle.raw.proofs.token.ident.Reads as ident
use Rattle.raw.proofs.value.string.Kinds as string-kinds
use Rattle.raw.proofs.value.string.Reads as string
use Rattle.raw.proofs.token.comment.Kinds as comment-kinds
use Rattle.raw.proofs.token.comment.Reads as comment
use Rattle.raw.proofs.token.key.Kinds as key-kinds
use Rattle.raw.proofs.token.key.Reads as key
use Rattle.raw.proofs.token.name.Kinds as name-kinds
use Rattle.raw.proofs.token.name.Reads as name

pub one-read : Both 2 read-kinds.ps read-kinds.r read.Post (λ κs x s y t. (x ≡ y) × (s.1.0.now ≡ t.1.0.now))
one-read κs a x y s t p q = (p.answer ∙ sym q.answer, p.rows ∙ sym q.rows)

pub one-culprit : One 1 culprit-kinds.ps culprit-kinds.r culprit.Post
one-culprit κs a x y s t p q = p ∙ sym q

pub one-comma : One 1 comma-kinds.ps comma-kinds.r comma.Post
one-comma κs a x y s t p q = p.0 ∙ sym q.0

pub one-at-sign : One 1 at-sign-kinds.ps at-sign-kinds.r at_sign.Post
one-at-sign κs a x y s t p q = p.0 ∙ sym q.0

pub one-opening : One 1 opening-kinds.ps opening-kinds.r opening.Post
one-opening κs a x y s t p q = p.0 ∙ sym q.0

pub one-closing : One 1 closing-kinds.ps closing-kinds.r closing.Post
one-closing κs a x y s t p q = p.0 ∙ sym q.0

pub one-quote : One 1 quote-kinds.ps quote-kinds.r quote.Post
one-quote κs a x y s t p q = p.0 ∙ sym q.0

pub one-equals : One 1 equals-kinds.ps equals-kinds.r equals.Post
one-equals κs a x y s t p q = p.0 ∙ sym q.0

pub one-ident : One 1 ident-kinds.ps ident-kinds.r ident.Post
one-ident κs a x y s t p q = p.0 ∙ sym q.0

pub one-string : One 1 string-kinds.ps string-kinds.r string.Post
one-string κs a x y s t p q = p.0 ∙ sym q.0

pub one-comment : One 1 comment-kinds.ps comment-kinds.r comment.Post
one-comment κs a x y s t p q = let e = p.0 ∙ sym q.0 in cc

pub one_key : One 1 key-kinds.ps key-kinds.r key.Post
one_key κs a x y s t p q = let e = p.0 ∙ sym q.0 in cc

pub one_name : One 1 name-kinds.ps name-kinds.r name.Post
one_name κs a x y s t p q = p.0 ∙ sym q.0

-- ---- the readers with rows

-- the numbers that are left are the same, unless the answer is a refusal
abbrev SameLeft : Result (ℕ × ℕ) Fault → List ℕ → List ℕ → Type 0
SameLeft (Ok (q, n)) b c = b ≡ c
SameLeft (Err f) b c = Unit {0}

same_read : (o : reader.Out) {base n : ℕ} {b₀ b c : List ℕ} {x y : Result (ℕ × ℕ) Fault} → Says base o n b₀ x b → Says base o n b₀ y c → (x ≡ y) × SameLeft x b c
same_read o {base} {n} {b₀} {b} {c} {x} {y} p q =
    (p.told ∙ sym q.told, subst (λ (r : Result (ℕ × ℕ) Fault). SameLeft r b c) (sym p.told) (by o p.rows q.rows))
  where
    by : (o : reader.Out) → RowsLaid base o n b₀ b → RowsLaid base o n b₀ c → SameLeft (answer_of o n) b c
    by (ok q rs) g h = g ∙ sym h
    by (again q rs a) g h = g ∙ sym h
    by (bad f) g h = tt

pub one-parse : Both 2 parse-kinds.ps parse-kinds.r parse.Post (λ κs x s y t. (x ≡ y) × SameLeft x s.1.1.0.now t.1.1.0.now)
one-parse κs a x y s t p q = same_read _ p.0 q.0

pub one_entry : Both 2 entry-kinds.ps entry-kinds.r entry.Post (λ κs x s y t. (x ≡ y) × SameLeft x s.1.1.0.now t.1.1.0.now)
one_entry κs a x y s t p q = same_read _ p.0 q.0

pub one-fields : Both 2 fields-kinds.ps fields-kinds.r fields.Post (λ κs x s y t. (x ≡ y) × SameLeft x s.1.1.0.now t.1.1.0.now)
one-fields κs a x y s t p q = same_read _ p.0 q.0

pub one-abbr-field : Both 2 abbr-field-kinds.ps abbr-field-kinds.r abbr-field.Post (λ κs x s y t. (x ≡ y) × SameLeft x s.1.1.0.now t.1.1.0.now)
one-abbr-field κs a x y s t p q = same_read _ p.0 q.0
