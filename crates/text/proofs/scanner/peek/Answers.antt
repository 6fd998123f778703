-- `text::scanner::peek` meets its contract. Assumes nothing.
use mathlib.Core.Path.{sym}
use Rattle.text.proofs.scanning.Seen.{see-end, see-ascii, seen-inside}
use Rattle.text.proofs.scanner.peek.Goals as goal

pub returns-then-s-at : goal.returns-then-s-at
returns-then-s-at c = seen-inside _ _ (sym (see-end _ _ c.if-s-at.true))

pub returns-then-b-lt128 : goal.returns-then-b-lt128
returns-then-b-lt128 c = seen-inside _ _ (sym (see-ascii _ _ c.if-s-at.false c.if-b-lt128.true))

pub returns : goal.returns
returns c = seen-inside _ _ c.peek_wide.ensures
