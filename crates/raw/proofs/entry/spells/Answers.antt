-- `raw::entry::spells` meets its contract: a letter of the word is one byte. Assumes nothing.
use Rattle.std.proofs.Common.{◌∙◌, sym, ap, arith}
use Rattle.raw.specs.Grammar.{spells}
use Rattle.raw.proofs.ways.SpellingBytes.{spells-length, spells-on, spells-off, spells-done}
use Rattle.raw.proofs.entry.spells.Goals as goal

pub returns-then-end-at : goal.returns-then-end-at
returns-then-end-at c =
    let a = c.args in
    let p = c.requires in
    sym (spells-length a.word.now a.s.now a.at a.end p.2 p.0 p.1 c.if-end-at.true)

pub loop-k-init : goal.loop-k-init
loop-k-init c = let a = c.args in ap (λ n. spells a.word.now a.s.now n a.end) (omega arith)

pub returns-then-lower-word : goal.returns-then-lower-word
returns-then-lower-word c =
    let a = c.args in
    sym
    (c.loop-k.invariant ∙ spells-off a.s.now a.word.now a.at a.end c.requires c.if-end-at.false c.loop-k.k c.loop-k-test.true
    (λ q. c.if-lower-word.true (c.lower.ensures ∙ q)))

pub loop-k-preserved : goal.loop-k-preserved
loop-k-preserved c =
    let a = c.args in
    c.loop-k.invariant ∙ spells-on a.s.now a.word.now a.at a.end c.requires c.if-end-at.false c.loop-k.k c.loop-k-test.true
    (sym c.lower.ensures ∙ c.if-lower-word.false)

pub returns : goal.returns
returns c =
    let a = c.args in
    sym (c.loop-k.invariant ∙ spells-done a.s.now a.word.now a.at a.end c.requires c.if-end-at.false c.loop-k.k (omega arith) c.loop-k-test.false)
