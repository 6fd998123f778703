-- `text::scanner::eat_start` meets its contract. Assumes nothing.
use mathlib.Core.Path.{sym, ◌∙◌}
use Rattle.text.specs.Class.{holds_of}
use Rattle.text.specs.declared.class.Test.TheVariants.{IdStart}
use Rattle.text.proofs.scanning.Skip.{bit-end}
use Rattle.text.proofs.scanning.AsciiLoops.{letter-start}
use Rattle.text.proofs.scanner.eat_start.Goals as goal

pub returns-then-s-at : goal.returns-then-s-at
unfolding holds_of
returns-then-s-at c = let a = c.args in bit-end IdStart a.s.now a.at c.if-s-at.true

pub returns-then-is_letter : goal.returns-then-is_letter
returns-then-is_letter c =
    let a = c.args in
    letter-start a.s.now a.at c.if-s-at.false (sym c.is_letter.ensures ∙ c.if-is_letter.true)

pub returns : goal.returns
unfolding holds_of
returns c = c.eat_if.ensures
