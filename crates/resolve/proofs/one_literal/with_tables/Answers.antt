-- `resolve::one_literal::with_tables` meets its contract. Assumes nothing.
use native.Mathlib.Omega.{arith}
use mathlib.Core.Path.{subst}
use Rattle.literal.specs.declared.parse.Begun.{Begun}
use Rattle.literal.specs.Inner.{SaysBegun}
use Rattle.resolve.proofs.ways.WriteWays.{whole-writes}
use Rattle.resolve.proofs.one_literal.with_tables.Goals as goal

pub one_chunk-requires : goal.one_chunk-requires
one_chunk-requires c =
    let a = c.args in
    let one = subst (λ (r : Begun). SaysBegun a.verbatim a.s.now r c.begin.new.out) c.in-Whole.is c.begin.ensures in
    (one.few, omega (arith, one.few, c.requires.1, c.begin.auto.out), omega (arith, c.requires.0), c.requires.0)

pub write-requires : goal.write-requires
write-requires c =
    let a = c.args in (
      c.requires.0,
      omega (arith, c.requires.1, c.begin.auto.out),
      subst (λ (r : Begun). SaysBegun a.verbatim a.s.now r c.begin.new.out) c.in-Part.is c.begin.ensures,
    )

pub returns-in-Whole : goal.returns-in-Whole
returns-in-Whole c =
    let a = c.args in
    let o = c.begin.new.out in
    let one = subst (λ (r : Begun). SaysBegun a.verbatim a.s.now r o) c.in-Whole.is c.begin.ensures in
    whole-writes a.verbatim a.s.now c.in-Whole.n a.base o one a.chunks.now a.text.now c.one_chunk.result _ _
    c.one_chunk.ensures
