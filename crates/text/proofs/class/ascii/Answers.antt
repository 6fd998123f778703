-- `text::class::ascii` meets its contract: each row's bits are computed over ASCII. Assumes nothing.
use Rattle.std.proofs.Common.{true, false, arith}
use Rattle.text.specs.Class.{white_space, control, is_whitespace, is_control, is_key, is_id_continue, is_id_start, holds_of}
use Rattle.text.specs.Inner.{has_bit}
use Rattle.text.specs.declared.class.Test.TheVariants.{Whitespace, Key, IdStart, IdContinue, Digit, Comma, QuotationMark, Equals}
use Rattle.text.specs.declared.class.Test.TheVariants.{Hash, Percent, OpeningBrace, ClosingBrace, Brace, Newline, Dollar}
use Rattle.text.proofs.scanning.Masks.{masks, wide, digit, braces}
use Rattle.text.proofs.general.Tests.{narrow-is}
use Rattle.text.proofs.class.ascii.Goals as goal

pub returns-in-Whitespace : goal.returns-in-Whitespace
unfolding has_bit holds_of is_whitespace white_space
returns-in-Whitespace c = masks Whitespace _ _ false tt wide c.in-Whitespace.is c.row.ensures

pub returns-in-Key : goal.returns-in-Key
unfolding has_bit holds_of is_key is_control control is_whitespace white_space
returns-in-Key c = masks Key _ _ false tt wide c.in-Key.is c.row-in-Key.ensures

pub returns-in-IdStart : goal.returns-in-IdStart
unfolding has_bit holds_of is_id_start is_id_continue is_control control is_whitespace white_space
returns-in-IdStart c = masks IdStart _ _ false tt wide c.in-IdStart.is c.row-in-IdStart.ensures

pub returns-in-IdContinue : goal.returns-in-IdContinue
unfolding has_bit holds_of is_id_continue is_control control is_whitespace white_space
returns-in-IdContinue c = masks IdContinue _ _ false tt wide c.in-IdContinue.is c.row-in-IdContinue.ensures

pub returns-in-Digit : goal.returns-in-Digit
unfolding has_bit holds_of
returns-in-Digit c = masks Digit _ _ true tt (λ e. digit) c.in-Digit.is c.row-in-Digit.ensures

pub returns-in-Comma : goal.returns-in-Comma
unfolding has_bit holds_of
returns-in-Comma c = masks Comma _ _ true tt (λ e. narrow-is 0x2C (omega arith)) c.in-Comma.is c.row-in-Comma.ensures

pub returns-in-QuotationMark : goal.returns-in-QuotationMark
unfolding has_bit holds_of
returns-in-QuotationMark c = masks QuotationMark _ _ true tt (λ e. narrow-is 0x22 (omega arith)) c.in-QuotationMark.is c.row-in-QuotationMark.ensures

pub returns-in-Equals : goal.returns-in-Equals
unfolding has_bit holds_of
returns-in-Equals c = masks Equals _ _ true tt (λ e. narrow-is 0x3D (omega arith)) c.in-Equals.is c.row-in-Equals.ensures

pub returns-in-Hash : goal.returns-in-Hash
unfolding has_bit holds_of
returns-in-Hash c = masks Hash _ _ true tt (λ e. narrow-is 0x23 (omega arith)) c.in-Hash.is c.row-in-Hash.ensures

pub returns-in-Percent : goal.returns-in-Percent
unfolding has_bit holds_of
returns-in-Percent c = masks Percent _ _ true tt (λ e. narrow-is 0x25 (omega arith)) c.in-Percent.is c.row-in-Percent.ensures

pub returns-in-OpeningBrace : goal.returns-in-OpeningBrace
unfolding has_bit holds_of
returns-in-OpeningBrace c = masks OpeningBrace _ _ true tt (λ e. narrow-is 0x7B (omega arith)) c.in-OpeningBrace.is c.row-in-OpeningBrace.ensures

pub returns-in-ClosingBrace : goal.returns-in-ClosingBrace
unfolding has_bit holds_of
returns-in-ClosingBrace c = masks ClosingBrace _ _ true tt (λ e. narrow-is 0x7D (omega arith)) c.in-ClosingBrace.is c.row-in-ClosingBrace.ensures

pub returns-in-Brace : goal.returns-in-Brace
unfolding has_bit holds_of
returns-in-Brace c = masks Brace _ _ true tt (λ e. braces) c.in-Brace.is c.row-in-Brace.ensures

pub returns-in-Newline : goal.returns-in-Newline
unfolding has_bit holds_of
returns-in-Newline c = masks Newline _ _ true tt (λ e. narrow-is 0x0A (omega arith)) c.in-Newline.is c.row-in-Newline.ensures

pub returns-in-Dollar : goal.returns-in-Dollar
unfolding has_bit holds_of
returns-in-Dollar c = masks Dollar _ _ true tt (λ e. narrow-is 0x24 (omega arith)) c.in-Dollar.is c.row-in-Dollar.ensures
