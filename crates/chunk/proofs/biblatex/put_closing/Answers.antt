-- `chunk::biblatex::put_closing` meets its contract. Assumes nothing.
use Rattle.std.proofs.Common.{arith, sym, ap}
use Rattle.chunk.specs.Format.{closing}
use Rattle.chunk.proofs.texts.Puts.{puts-on, puts-as}
use Rattle.chunk.proofs.biblatex.put_closing.Goals as goal

pub returns-then-extra : goal.returns-then-extra
returns-then-extra c =
    let e = sym (ap closing c.if-extra.true) in
    record { puts = puts-as e (puts-on c.put-next.ensures.puts c.put.ensures.puts); upper_bound = omega (arith, c.put-next.ensures.value, c.put.ensures.value) }

pub returns : goal.returns
returns c = record { puts = puts-as (sym (ap closing c.if-extra.false)) c.put-next.ensures.puts; upper_bound = omega (arith, c.put-next.ensures.value) }
