-- `resolve::progress::month` meets its contract. Assumes nothing.
use Rattle.resolve.proofs.appending.AppendWays.{one, month-text, month-row}
use Rattle.resolve.proofs.progress.month.Goals as goal

pub returns : goal.returns
returns c =
    let a = c.args in
    let p = c.requires in record {
      adds = λ ps b₀ t₀ has.
          c.append.ensures.appends ps (one a.words.now a.from a.to a.start a.end) b₀ t₀ a.chunks.now _
          (λ _. month-text a.words.now a.from a.to a.start a.end) has
          (λ o.
          month-row a.words.now a.from a.to a.start a.end a.st ps b₀ t₀ a.chunks.now _ a.text.now _ _ _ p.1 p.2
          c.narrow.ensures c.narrow-2.ensures c.push-rows.ensures.pushes has o);
      bounded = c.append.ensures.bounded;
    }
