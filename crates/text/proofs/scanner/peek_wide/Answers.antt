-- `text::scanner::peek_wide` meets its contract. Assumes nothing.
use Rattle.text.proofs.scanning.Seen.{seen-told}
use Rattle.text.proofs.scanner.peek_wide.Goals as goal

pub returns-in-End : goal.returns-in-End
returns-in-End c =
    let a = c.args in
    let decode = c.decode in
    seen-told a.s.now a.at decode.ensures c.in-End.is

pub returns-in-Char : goal.returns-in-Char
returns-in-Char c =
    let a = c.args in
    seen-told a.s.now a.at c.decode.ensures c.in-Char.is

pub returns-in-IllFormed : goal.returns-in-IllFormed
returns-in-IllFormed c =
    let a = c.args in
    let decode = c.decode in
    seen-told a.s.now a.at decode.ensures c.in-IllFormed.is
