-- `chunk::biblatex::escape` meets its contract. Assumes nothing.
use Rattle.std.proofs.Common.{arith, sym, ◌∙◌}
use Rattle.chunk.proofs.texts.Puts.{puts-on, puts-as}
use Rattle.chunk.proofs.texts.Escapes.{escape-some, escape-none}
use Rattle.chunk.proofs.biblatex.escape.Goals as goal

pub returns-then-is_escapable : goal.returns-then-is_escapable
returns-then-is_escapable c =
    let a = c.args in
    let e = escape-some a.verb a.b (sym c.is_escapable.ensures ∙ c.if-is_escapable.true) in
    record { puts = puts-as e (puts-on c.put-next.ensures.puts c.put.ensures.puts); upper_bound = omega (arith, c.put-next.ensures.value, c.put.ensures.value) }

pub returns : goal.returns
returns c =
    let a = c.args in
    let e = escape-none a.verb a.b (sym c.is_escapable.ensures ∙ c.if-is_escapable.false) in
    record { puts = puts-as e c.put-2.ensures.puts; upper_bound = omega (arith, c.put-2.ensures.value) }
