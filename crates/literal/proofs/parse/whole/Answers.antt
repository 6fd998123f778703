-- `literal::parse::whole` meets its contract. Assumes nothing.
use Rattle.std.proofs.Common.{arith}
use Rattle.literal.proofs.ways.LiteralWays.{whole_row}
use Rattle.literal.proofs.parse.whole.Goals as goal

pub returns : goal.returns
returns c =
    let a = c.args in
    let p = c.requires in record {
      pushes = whole_row a.base a.before a.have a.numbers.now a.end a.len c.narrow-from.result c.narrow-to.result
          c.narrow-first.result c.narrow-last.result c.push.result _ c.narrow-from.ensures c.narrow-to.ensures
          (c.narrow-first.ensures (omega (arith, p.0))) (c.narrow-last.ensures (omega (arith, p.1))) c.push.ensures.pushes;
      n_bound = c.push.ensures.n_le_n.1;
    }
