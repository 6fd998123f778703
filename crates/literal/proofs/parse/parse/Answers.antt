-- `literal::parse::parse` meets its contract. Assumes nothing.
use Rattle.std.proofs.Common.{arith, subst}
use Rattle.literal.specs.declared.parse.Begun.{Begun}
use Rattle.literal.specs.Inner.{SaysBegun}
use Rattle.literal.proofs.ways.LiteralWays.{parse-whole}
use Rattle.literal.proofs.parse.parse.Goals as goal

pub whole-rows-requires : goal.whole-rows-requires
whole-rows-requires c =
    let a = c.args in
    let p = c.requires in
    let o = c.begin.new.out in
    let one = subst (λ (r : Begun). SaysBegun a.verb a.s.now r o) c.in-Whole.is c.begin.ensures in
    (omega (arith, p.file), omega (arith, p.file), p.value, one.few, p.rows)

pub rest-requires : goal.rest-requires
rest-requires c =
    let a = c.args in
    let p = c.requires in
    let o = c.begin.new.out in (
      record {
        file = p.file;
        scratch = omega (arith, p.scratch, c.begin.auto.out);
        value = p.value;
        rows = p.rows;
      },
      subst (λ (r : Begun). SaysBegun a.verb a.s.now r o) c.in-Part.is c.begin.ensures,
    )

pub returns-in-Whole : goal.returns-in-Whole
returns-in-Whole c =
    let a = c.args in
    let p = c.requires in
    let o = c.begin.new.out in
    let one = subst (λ (r : Begun). SaysBegun a.verb a.s.now r o) c.in-Whole.is c.begin.ensures in record {
      says_parsed = parse-whole a.base a.before a.have a.numbers.now a.verb a.s.now c.in-Whole.len o c.whole-rows.result _ one
          (omega (arith, one.few, p.scratch, c.begin.auto.out)) c.whole-rows.ensures.pushes;
      grows_parsed = (one.few, omega (arith, c.whole-rows.ensures.n_bound));
    }
