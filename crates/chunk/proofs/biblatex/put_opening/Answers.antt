-- `chunk::biblatex::put_opening` meets its contract. Assumes nothing.
use Rattle.std.proofs.Common.{arith, sym, ap, ap₂}
use Rattle.chunk.specs.Format.{opening}
use Rattle.chunk.proofs.texts.Puts.{puts_none, puts-as}
use Rattle.chunk.proofs.biblatex.put_opening.Goals as goal

pub returns-then-extra : goal.returns-then-extra
returns-then-extra c =
    let e = sym (ap₂ opening c.if-extra.true c.in-Normal.is) in
    record { puts = puts-as e c.put.ensures.puts; upper_bound = omega (arith, c.put.ensures.value) }

pub returns-then-extra-2 : goal.returns-then-extra-2
returns-then-extra-2 c = let e = sym (ap₂ opening c.if-extra-2.true c.in-Verbatim.is) in record { puts = puts-as e (puts_none _ _); upper_bound = omega arith }

pub returns-else-extra : goal.returns-else-extra
returns-else-extra c = let e = sym (ap₂ opening c.if-extra.false c.in-Normal.is) in record { puts = puts-as e (puts_none _ _); upper_bound = omega arith }

pub returns-else-extra-2 : goal.returns-else-extra-2
returns-else-extra-2 c =
    let e = sym (ap₂ opening c.if-extra-2.false c.in-Verbatim.is) in
    record { puts = puts-as e c.put-in-Verbatim.ensures.puts; upper_bound = omega (arith, c.put-in-Verbatim.ensures.value) }

pub returns-in-Math : goal.returns-in-Math
returns-in-Math c =
    let e = sym (ap (opening c.args.extra) c.in-Math.is) in
    record { puts = puts-as e c.put-in-Math.ensures.puts; upper_bound = omega (arith, c.put-in-Math.ensures.value) }
