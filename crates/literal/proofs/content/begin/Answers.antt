-- `literal::content::begin` meets its contract. Assumes nothing.
use Rattle.std.proofs.Common.{◌+◌, arith, refl}
use Rattle.text.specs.Scan.{part}
use Rattle.literal.proofs.ways.ArgumentWays.{begun}
use Rattle.literal.proofs.content.begin.Goals as goal

pub returns : goal.returns
returns c =
    let a = c.args in
    let p = c.requires in record {
      argument_begun = begun (part a.s.now (a.st.at + 1) a.end) a.m a.from a.st a.out.now _ c.execute_before-lead.result _
          c.execute_before-lead.ensures.lays (omega (arith, p.0, p.1, p.2, p.3));
      at_bound = (c.execute_before-lead.ensures.a_bound, refl);
    }
