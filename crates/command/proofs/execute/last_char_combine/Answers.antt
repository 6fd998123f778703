-- `command::execute::last_char_combine` meets its contract. Assumes nothing.
use Rattle.std.proofs.Common.{◌≤◌, arith, sym, ap, ◌∙◌, length}
use Rattle.text.specs.Utf8.{octets}
use Rattle.command.proofs.stacks.LaysLaws.{lays-as, octets-two}
use Rattle.chunk.proofs.texts.LastCharacter.{last_less}
use Rattle.command.proofs.ways.LastCharacterWays as laws
use Rattle.command.proofs.execute.last_char_combine.Goals as goal

pub put_code-requires : goal.put_code-requires
put_code-requires c =
    let a = c.args in
    let o = a.out.now in
    let h = laws.bare-room a.from a.to a.mark c.bare-b.result c.requires.1 c.bare-b.ensures c.requires.3 c.requires.4 in
    (h.0, omega (arith, h.1, c.requires.2))

pub returns-then-to-from : goal.returns-then-to-from
returns-then-to-from c =
    let a = c.args in
    let o = a.out.now in
    let h = laws.bare-room a.from a.to a.mark c.bare-b.result c.requires.1 c.bare-b.ensures c.requires.3 c.requires.4 in record {
      lays = laws.empty o a.from a.to c.requires.1 (omega (arith, c.requires.2)) a.mark c.put_code.result _ c.if-to-from.true
          (lays-as a.from _ _ o c.put_code.result _ (ap octets c.bare-b.ensures) c.put_code.ensures);
      upper_bound = omega (arith, c.put_code.ensures.end, h.1);
    }

pub code_at-c-requires : goal.code_at-c-requires
code_at-c-requires c =
    let a = c.args in
    let o = a.out.now in
    let eo : a.to ≤ length o = omega (arith, c.requires.2) in
    (last_less o a.from a.to _ c.if-to-from.false eo c.last_at-at.ensures, eo)

pub put_code-requires-in-Some : goal.put_code-requires-in-Some
put_code-requires-in-Some c =
    let a = c.args in
    let p = c.requires in
    let o = a.out.now in
    let l = c.if-to-from.false in
    let eo : a.to ≤ length o = omega (arith, p.2) in
    let h = last_less o a.from a.to c.last_at-at.result l eo c.last_at-at.ensures in
    let f = laws.looked a.marks.now c.dotted-d.result a.mark c.code_at-c.result c.find.result _ c.find.ensures p.0
    c.dotted-d.ensures c.in-Some.is in
    let y = laws.char-room o c.last_at-at.result a.to c.code_at-c.result a.mark _ h eo c.code_at-c.ensures f in
    (y.0, omega (arith, y.1, p.2))

pub put_code-requires-then-d-c : goal.put_code-requires-then-d-c
put_code-requires-then-d-c c =
    let a = c.args in
    let p = c.requires in
    let o = a.out.now in
    let l = c.if-to-from.false in
    let eo : a.to ≤ length o = omega (arith, p.2) in
    (p.3, omega (arith, octets-two a.mark p.4, p.2))

pub returns-then-d-c : goal.returns-then-d-c
returns-then-d-c c =
    let a = c.args in
    let p = c.requires in
    let o = a.out.now in
    let l = c.if-to-from.false in
    let eo : a.to ≤ length o = omega (arith, p.2) in
    let f = laws.looked a.marks.now c.dotted-d.result a.mark c.code_at-c.result c.find.result _ c.find.ensures p.0
    c.dotted-d.ensures c.in-None.is in record {
      lays = laws.behind o a.from a.to p.1 eo a.mark l c.last_at-at.result c.code_at-c.result c.last_at-at.ensures c.code_at-c.ensures c.put_code-then-d-c.result _ f
          (sym c.dotted-d.ensures ∙ c.if-d-c.true) c.put_code-then-d-c.ensures;
      upper_bound = omega (arith, c.put_code-then-d-c.ensures.end, octets-two a.mark p.4);
    }

pub put_code-l-requires : goal.put_code-l-requires
put_code-l-requires c =
    let a = c.args in
    let p = c.requires in
    let o = a.out.now in
    let l = c.if-to-from.false in
    let eo : a.to ≤ length o = omega (arith, p.2) in
    let h = last_less o a.from a.to c.last_at-at.result l eo c.last_at-at.ensures in
    let y = laws.dot-room c.last_at-at.result a.to c.code_at-c.result c.dotted-d.result h c.dotted-d.ensures c.if-d-c.false in
    (y.0, omega (arith, y.1, h, p.2))

pub put_code-requires-in-None : goal.put_code-requires-in-None
put_code-requires-in-None c =
    let a = c.args in
    let p = c.requires in
    let o = a.out.now in
    let l = c.if-to-from.false in
    let eo : a.to ≤ length o = omega (arith, p.2) in
    let h = last_less o a.from a.to c.last_at-at.result l eo c.last_at-at.ensures in
    let y = laws.dot-room c.last_at-at.result a.to c.code_at-c.result c.dotted-d.result h c.dotted-d.ensures c.if-d-c.false in
    (p.3, omega (arith, y.1, h, p.2, c.put_code-l.ensures.end, c.put_code-l.auto.out, octets-two a.mark p.4))

pub returns-in-Some : goal.returns-in-Some
returns-in-Some c =
    let a = c.args in
    let p = c.requires in
    let o = a.out.now in
    let l = c.if-to-from.false in
    let eo : a.to ≤ length o = omega (arith, p.2) in
    let h = last_less o a.from a.to c.last_at-at.result l eo c.last_at-at.ensures in
    let f = laws.looked a.marks.now c.dotted-d.result a.mark c.code_at-c.result c.find.result _ c.find.ensures p.0
    c.dotted-d.ensures c.in-Some.is in
    let y = laws.char-room o c.last_at-at.result a.to c.code_at-c.result a.mark _ h eo c.code_at-c.ensures f in record {
      lays = laws.composes o a.from a.to p.1 eo a.mark l c.last_at-at.result c.code_at-c.result c.last_at-at.ensures c.code_at-c.ensures _ c.put_code-in-Some.result _
          f c.put_code-in-Some.ensures;
      upper_bound = omega (arith, c.put_code-in-Some.ensures.end, y.1);
    }

pub returns-else-d-c : goal.returns-else-d-c
returns-else-d-c c =
    let a = c.args in
    let p = c.requires in
    let o = a.out.now in
    let l = c.if-to-from.false in
    let eo : a.to ≤ length o = omega (arith, p.2) in
    let h = last_less o a.from a.to c.last_at-at.result l eo c.last_at-at.ensures in
    let f = laws.looked a.marks.now c.dotted-d.result a.mark c.code_at-c.result c.find.result _ c.find.ensures p.0
    c.dotted-d.ensures c.in-None.is in
    let y = laws.dot-room c.last_at-at.result a.to c.code_at-c.result c.dotted-d.result h c.dotted-d.ensures c.if-d-c.false in record {
      lays = laws.dots o a.from a.to p.1 eo a.mark l c.last_at-at.result c.code_at-c.result c.last_at-at.ensures c.code_at-c.ensures c.put_code-l.result _
          c.put_code-in-None.result _ f (λ e. c.if-d-c.false (c.dotted-d.ensures ∙ e))
          (lays-as c.last_at-at.result _ _ o c.put_code-l.result _ (ap octets c.dotted-d.ensures) c.put_code-l.ensures) c.put_code-in-None.ensures;
      upper_bound = omega (arith, y.1, h, c.put_code-l.ensures.end, c.put_code-in-None.ensures.end, octets-two a.mark p.4);
    }
