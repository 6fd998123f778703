-- `text::scanner::eat_line` meets its contract. Assumes nothing.
use Rattle.text.proofs.scanning.Blocks.{line}
use Rattle.text.proofs.scanner.eat_line.Goals as goal

pub returns : goal.returns
returns c = let a = c.args in line a.s.now a.at c.find.ensures
