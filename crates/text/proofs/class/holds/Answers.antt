-- `text::class::holds` meets its contract: each arm is a clause of `holds_of`. Assumes nothing.
use Rattle.std.proofs.Common.{◌||◌, sym, ap, ◌∙◌, eqb}
use mathlib.Core.Bool.{or-false}
use Rattle.text.specs.Class.{holds_of}
use Rattle.text.proofs.scanning.Masks.{told}
use Rattle.text.proofs.class.holds.Goals as goal

pub returns-in-Whitespace : goal.returns-in-Whitespace
unfolding holds_of
returns-in-Whitespace c = c.is_whitespace.ensures ∙ told _ c.in-Whitespace.is

pub returns-in-Key : goal.returns-in-Key
unfolding holds_of
returns-in-Key c = c.is_key.ensures ∙ told _ c.in-Key.is

pub returns-in-IdStart : goal.returns-in-IdStart
unfolding holds_of
returns-in-IdStart c = c.is_id_start.ensures ∙ told _ c.in-IdStart.is

pub returns-in-IdContinue : goal.returns-in-IdContinue
unfolding holds_of
returns-in-IdContinue c = c.is_id_continue.ensures ∙ told _ c.in-IdContinue.is

pub returns-in-Digit : goal.returns-in-Digit
unfolding holds_of
returns-in-Digit c = c.is_within.ensures ∙ told _ c.in-Digit.is

pub returns-in-Comma : goal.returns-in-Comma
unfolding holds_of
returns-in-Comma c = told _ c.in-Comma.is

pub returns-in-QuotationMark : goal.returns-in-QuotationMark
unfolding holds_of
returns-in-QuotationMark c = told _ c.in-QuotationMark.is

pub returns-in-Equals : goal.returns-in-Equals
unfolding holds_of
returns-in-Equals c = told _ c.in-Equals.is

pub returns-in-Hash : goal.returns-in-Hash
unfolding holds_of
returns-in-Hash c = told _ c.in-Hash.is

pub returns-in-Percent : goal.returns-in-Percent
unfolding holds_of
returns-in-Percent c = told _ c.in-Percent.is

pub returns-in-OpeningBrace : goal.returns-in-OpeningBrace
unfolding holds_of
returns-in-OpeningBrace c = told _ c.in-OpeningBrace.is

pub returns-in-ClosingBrace : goal.returns-in-ClosingBrace
unfolding holds_of
returns-in-ClosingBrace c = told _ c.in-ClosingBrace.is

pub returns-in-Brace : goal.returns-in-Brace
unfolding holds_of
returns-in-Brace c = ap (λ b. eqb c.args.c 0x7B || b) (sym (or-false _)) ∙ told _ c.in-Brace.is

pub returns-in-Newline : goal.returns-in-Newline
unfolding holds_of
returns-in-Newline c = told _ c.in-Newline.is

pub returns-in-Dollar : goal.returns-in-Dollar
unfolding holds_of
returns-in-Dollar c = told _ c.in-Dollar.is
