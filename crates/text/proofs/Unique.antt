-- Each public contract allows one outcome only. This is said of the contract as the check reads it off the source, so that a contract
-- which said less would fail here.
-- Assumes nothing.
use mathlib.Core.Path.{◌≡◌, sym, ◌∙◌}
use Rattle.text.proofs.general.Outcomes.{Both, One}
use Rattle.text.proofs.scanning.Blocks.{found-once}
use Rattle.text.proofs.utf8.validate.Kinds as validate-kinds
use Rattle.text.proofs.utf8.validate.Reads as validate
use Rattle.text.proofs.utf8.validate_short.Kinds as validate-short-kinds
use Rattle.text.proofs.utf8.validate_short.Reads as validate-short
use Rattle.text.proofs.utf8.validate_text.Kinds as validate-text-kinds
use Rattle.text.proofs.utf8.validate_text.Reads as validate-text
use Rattle.text.proofs.utf8.decode.Kinds as decode-kinds
use Rattle.text.proofs.utf8.decode.Reads as decode
use Rattle.text.proofs.utf8.encode.Kinds as encode-kinds
use Rattle.text.proofs.utf8.encode.Reads as encode
use Rattle.text.proofs.utf8.is_boundary.Kinds as is-boundary-kinds
use Rattle.text.proofs.utf8.is_boundary.Reads as is-boundary
use Rattle.text.proofs.class.is_whitespace.Kinds as is-whitespace-kinds
use Rattle.text.proofs.class.is_whitespace.Reads as is_whitespace
use Rattle.text.proofs.class.is_control.Kinds as is-control-kinds
use Rattle.text.proofs.class.is_control.Reads as is_control
use Rattle.text.proofs.class.holds.Kinds as holds-kinds
use Rattle.text.proofs.class.holds.Reads as holds
use Rattle.text.proofs.class.has.Kinds as class-has-kinds
use Rattle.text.proofs.class.has.Reads as class-has
use Rattle.text.proofs.scanner.peek.Kinds as peek-kinds
use Rattle.text.proofs.scanner.peek.Reads as peek
use Rattle.text.proofs.scanner.eat.Kinds as eat-kinds
use Rattle.text.proofs.scanner.eat.Reads as eat
use Rattle.text.proofs.scanner.eat_if.Kinds as eat-if-kinds
use Rattle.text.proofs.scanner.eat_if.Reads as eat-if
use Rattle.text.proofs.scanner.eat_until.Kinds as eat-until-kinds
use Rattle.text.proofs.scanner.eat_until.Reads as eat-until
use Rattle.text.proofs.scanner.eat_whitespace.Kinds as eat-whitespace-kinds
use Rattle.text.proofs.scanner.eat_whitespace.Reads as eat-whitespace
use Rattle.text.proofs.scanner.eat_byte.Kinds as eat-byte-kinds
use Rattle.text.proofs.scanner.eat_byte.Reads as eat-byte
use Rattle.text.proofs.scanner.eat_start.Kinds as eat-start-kinds
use Rattle.text.proofs.scanner.eat_start.Reads as eat-start
use Rattle.text.proofs.scanner.eat_id.Kinds as eat-id-kinds
use Rattle.text.proofs.scanner.eat_id.Reads as eat-id
use Rattle.text.proofs.scanner.eat_key.Kinds as eat-key-kinds
use Rattle.text.proofs.scanner.eat_key.Reads as eat-key
use Rattle.text.proofs.scanner.eat_gap.Kinds as eat-gap-kinds
use Rattle.text.proofs.scanner.eat_gap.Reads as eat-gap
use Rattle.text.proofs.scanner.eat_line.Kinds as eat-line-kinds
use Rattle.text.proofs.scanner.eat_line.Reads as eat-line
use Rattle.text.proofs.block.find.Kinds as find-kinds
use Rattle.text.proofs.block.find.Reads as find
use Rattle.text.proofs.block.copy.Kinds as copy-kinds
use Rattle.text.proofs.block.copy.Reads as copy
use Rattle.text.proofs.scanner.from.Kinds as from-kinds
use Rattle.text.proofs.scanner.from.Reads as from

pub one-validate : One 1 validate-kinds.ps validate-kinds.r validate.Post
one-validate κs a x y s t p q = p ∙ sym q

pub one-validate-short : One 1 validate-short-kinds.ps validate-short-kinds.r validate-short.Post
one-validate-short κs a x y s t p q = p ∙ sym q

pub one-validate-text : One 1 validate-text-kinds.ps validate-text-kinds.r validate-text.Post
one-validate-text κs a x y s t p q = p ∙ sym q

pub one-decode : One 1 decode-kinds.ps decode-kinds.r decode.Post
one-decode κs a x y s t p q = p ∙ sym q

-- the same answer, and the same bytes
pub one-encode : Both 1 encode-kinds.ps encode-kinds.r encode.Post (λ κs x s y t. (x ≡ y) × (s.1.0.now ≡ t.1.0.now))
one-encode κs a x y s t p q = (p.answer ∙ sym q.answer, p.bytes ∙ sym q.bytes)

pub one-is-boundary : One 1 is-boundary-kinds.ps is-boundary-kinds.r is-boundary.Post
one-is-boundary κs a x y s t p q = p ∙ sym q

pub one-is-whitespace : One 0 is-whitespace-kinds.ps is-whitespace-kinds.r is_whitespace.Post
one-is-whitespace κs a x y s t p q = p ∙ sym q

pub one-is-control : One 0 is-control-kinds.ps is-control-kinds.r is_control.Post
one-is-control κs a x y s t p q = p ∙ sym q

pub one_holds : One 0 holds-kinds.ps holds-kinds.r holds.Post
one_holds κs a x y s t p q = p ∙ sym q

pub one-class-has : One 0 class-has-kinds.ps class-has-kinds.r class-has.Post
one-class-has κs a x y s t p q = p ∙ sym q

pub one-peek : One 1 peek-kinds.ps peek-kinds.r peek.Post
one-peek κs a x y s t p q = p.0 ∙ sym q.0

pub one-eat : One 1 eat-kinds.ps eat-kinds.r eat.Post
one-eat κs a x y s t p q = p.0 ∙ sym q.0

pub one-eat-if : One 1 eat-if-kinds.ps eat-if-kinds.r eat-if.Post
one-eat-if κs a x y s t p q = p.0 ∙ sym q.0

pub one-eat-until : One 1 eat-until-kinds.ps eat-until-kinds.r eat-until.Post
one-eat-until κs a x y s t p q = p.0 ∙ sym q.0

pub one-eat-whitespace : One 1 eat-whitespace-kinds.ps eat-whitespace-kinds.r eat-whitespace.Post
one-eat-whitespace κs a x y s t p q = p.0 ∙ sym q.0

pub one-eat-byte : One 1 eat-byte-kinds.ps eat-byte-kinds.r eat-byte.Post
one-eat-byte κs a x y s t p q = p.0 ∙ sym q.0

pub one-eat-start : One 1 eat-start-kinds.ps eat-start-kinds.r eat-start.Post
one-eat-start κs a x y s t p q = p.0 ∙ sym q.0

pub one-eat-id : One 1 eat-id-kinds.ps eat-id-kinds.r eat-id.Post
one-eat-id κs a x y s t p q = p.0 ∙ sym q.0

pub one-eat-key : One 1 eat-key-kinds.ps eat-key-kinds.r eat-key.Post
one-eat-key κs a x y s t p q = p.0 ∙ sym q.0

pub one-eat-gap : One 1 eat-gap-kinds.ps eat-gap-kinds.r eat-gap.Post
one-eat-gap κs a x y s t p q = p.0 ∙ sym q.0

pub one-eat-line : One 1 eat-line-kinds.ps eat-line-kinds.r eat-line.Post
one-eat-line κs a x y s t p q = p.0 ∙ sym q.0

pub one-find : One 1 find-kinds.ps find-kinds.r find.Post
one-find κs a x y s t p q = found-once p q

-- the same bytes
pub one-copy : Both 2 copy-kinds.ps copy-kinds.r copy.Post (λ κs x s y t. s.1.1.1.0.now ≡ t.1.1.1.0.now)
one-copy κs a x y s t p q = p ∙ sym q

-- the same bytes, wherever they lie
pub one_from : Both 1 from-kinds.ps from-kinds.r from.Post (λ κs x s y t. x.now ≡ y.now)
one_from κs a x y s t p q = p ∙ sym q
