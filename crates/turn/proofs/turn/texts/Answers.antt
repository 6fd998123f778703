-- `turn::turn::texts` meets its contract. The invariant: the turns before `i` wrote text, which ends at `l`. Assumes nothing.
use Rattle.std.proofs.Common.{arith, refl, sym, ◌∙◌, length}
use Rattle.turn.proofs.ways.TextTurns.{wrote_none, wrote-more, grows-more, wrote_on, grows-on}
use Rattle.turn.proofs.ways.CommandAnswers.{not-ends}
use Rattle.turn.proofs.turn.texts.Goals as goal

pub loop-verb-init : goal.loop-verb-init
loop-verb-init c =
    let a = c.args in (
      wrote_none a.verb a.s.now a.at a.len a.out.now,
      record { at = omega arith; inside = c.requires.0; text = omega arith },
      refl,
    )

pub copy-k-requires : goal.copy-k-requires
copy-k-requires c =
    let run = c.run-j.ensures in
    let g = c.loop-verb.invariant.1 in
    (run.from, omega (arith, run.to, g.inside), omega (arith, run.from, run.to, g.inside, g.text, c.loop-verb.invariant.2, c.requires.1))

pub returns-then-s-j : goal.returns-then-s-j
returns-then-s-j c =
    let a = c.args in
    let x = c.loop-verb in record {
      wrote = wrote-more a.verb a.s.now a.at a.len a.out.now x.i x.l x.out c.run-j.result c.copy-k.result _
          x.invariant.0 c.run-j.ensures c.copy-k.ensures.lays;
      grows = grows-more (length a.s.now) a.at a.len x.i x.l c.run-j.result c.copy-k.result
          x.invariant.1 c.run-j.ensures.from c.run-j.ensures.to c.copy-k.ensures.from_value;
      at_value = λ h. absurd (omega (arith, h, c.if-s-j.true));
    }

pub returns-then-ends_text : goal.returns-then-ends_text
returns-then-ends_text c =
    let a = c.args in
    let x = c.loop-verb in record {
      wrote = wrote-more a.verb a.s.now a.at a.len a.out.now x.i x.l x.out c.run-j.result c.copy-k.result _
          x.invariant.0 c.run-j.ensures c.copy-k.ensures.lays;
      grows = grows-more (length a.s.now) a.at a.len x.i x.l c.run-j.result c.copy-k.result
          x.invariant.1 c.run-j.ensures.from c.run-j.ensures.to c.copy-k.ensures.from_value;
      at_value = λ h. sym c.ends_text.ensures ∙ c.if-ends_text.true;
    }

pub one_text-t-requires : goal.one_text-t-requires
one_text-t-requires c =
    let g = c.loop-verb.invariant.1 in
    let is = not-ends c.args.verb _ (sym c.ends_text.ensures ∙ c.if-ends_text.false) in (
      c.if-s-j.false,
      is.0,
      is.1,
      omega (
        arith,
        c.run-j.ensures.from,
        c.run-j.ensures.to,
        g.inside,
        g.text,
        c.loop-verb.invariant.2,
        c.requires.1,
        c.copy-k.ensures.from_value,
        c.copy-k.auto.out,
      ),
    )

pub loop-verb-preserved : goal.loop-verb-preserved
loop-verb-preserved c =
    let a = c.args in
    let x = c.loop-verb in (
      wrote_on a.verb a.s.now a.at a.len a.out.now c.run-j.result c.copy-k.result _ c.one_text-t.result.at
          c.one_text-t.result.len _
          (wrote-more a.verb a.s.now a.at a.len a.out.now x.i x.l x.out c.run-j.result c.copy-k.result _
          x.invariant.0 c.run-j.ensures c.copy-k.ensures.lays)
          c.one_text-t.ensures.wrote,
      grows-on (length a.s.now) 0 1 a.at a.len c.run-j.result c.copy-k.result c.one_text-t.result.at
          c.one_text-t.result.len (grows-more (length a.s.now) a.at a.len x.i x.l c.run-j.result c.copy-k.result
          x.invariant.1 c.run-j.ensures.from c.run-j.ensures.to c.copy-k.ensures.from_value)
          c.one_text-t.ensures.grows,
      c.one_text-t.auto.out ∙ c.copy-k.auto.out ∙ x.invariant.2,
    )
