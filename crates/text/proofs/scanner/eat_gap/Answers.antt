-- `text::scanner::eat_gap` meets its contract. Assumes nothing.
use mathlib.Core.Path.{sym, ◌∙◌}
use Rattle.text.proofs.scanning.AsciiLoops.{gap-over}
use Rattle.text.proofs.scanning.Skip.{ran}
use Rattle.text.specs.Class.{is_whitespace}
use Rattle.text.proofs.scanner.eat_gap.Goals as goal

pub returns : goal.returns
returns c =
    let a = c.args in
    let past-white = c.past_white in
    ran is_whitespace a.s.now a.at (c.eat_whitespace.ensures.0 ∙ sym (gap-over a.s.now past-white.ensures))
