-- `literal::rows::push` meets its contract. Assumes nothing.
use Rattle.std.proofs.Common.{arith}
use Rattle.literal.proofs.ways.PushWays.{pushed-new, pushed-join, pushed-some}
use Rattle.literal.proofs.rows.push.Goals as goal

pub overflow_sub-have : goal.overflow_sub-have
overflow_sub-have c =
    let a = c.args in
    omega (
      arith,
      pushed-some a.kind a.from a.to a.start a.end a.have a.rows.now a.rows.now c.from-number.result
          c.from-number.ensures c.if-have-number.true,
    )

pub returns-then-have-number : goal.returns-then-have-number
returns-then-have-number c =
    let a = c.args in record {
      pushes = pushed-join a.kind a.from a.to a.start a.end a.have a.rows.now _ c.from-number.result
          c.from-number.ensures c.if-have-number.true c.write_chunk.ensures;
      n_le_n = (omega arith, omega arith);
    }

pub returns : goal.returns
returns c =
    let a = c.args in record {
      pushes = pushed-new a.kind a.from a.to a.start a.end a.have a.rows.now _ c.from-number.result
          c.from-number.ensures c.if-have-number.false c.write_chunk-2.ensures;
      n_le_n = (omega arith, omega arith);
    }
