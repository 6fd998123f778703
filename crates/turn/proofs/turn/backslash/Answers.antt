-- `turn::turn::backslash` meets its contract. Assumes nothing.
use Rattle.std.proofs.Common.{arith, sym, ◌∙◌, false}
use Rattle.turn.proofs.ways.TextTurns.{says-as}
use Rattle.turn.proofs.ways.CommandAnswers.{ends-verb, ends-refused, char-next, escapes, stands, behind, begins-so}
use Rattle.turn.proofs.turn.backslash.Goals as goal

pub returns-then-verb : goal.returns-then-verb
returns-then-verb c =
    let a = c.args in
    let p = c.requires in record {
      says_text = ends-verb a.verb a.s.now a.at a.len a.out.now p.0 p.1 c.peek.ensures.0
          c.in-None.is c.if-verb.true c.push-l.result _ c.push-l.ensures.lays;
      grows_text = record { at = omega arith; inside = omega (arith, p.0); text = omega (arith, c.push-l.ensures.value) };
    }

pub copy-l-requires : goal.copy-l-requires
copy-l-requires c =
    let a = c.args in
    let p = c.requires in
    let next = char-next a.verb a.s.now a.at a.len a.out.now p.0 p.1 c.peek.ensures.0 c.in-Some.is
    c.is_escape.ensures in
    (omega (arith, next.0), next.1, omega (arith, next.0, next.1, p.2.room))

pub returns-then-is_escape : goal.returns-then-is_escape
returns-then-is_escape c =
    let a = c.args in
    let p = c.requires in
    let next = char-next a.verb a.s.now a.at a.len a.out.now p.0 p.1 c.peek.ensures.0 c.in-Some.is
    c.is_escape.ensures in record {
      says_text = escapes a.verb a.s.now a.at a.len a.out.now p.0 p.1 c.peek.ensures.0 c.in-Some.is
          c.is_escape.ensures c.if-is_escape.true c.copy-l.result _ c.copy-l.ensures.lays;
      grows_text = record { at = omega (arith, next.0); inside = next.1; text = omega (arith, next.0, c.copy-l.ensures.from_value) };
    }

pub returns-then-verb-2 : goal.returns-then-verb-2
returns-then-verb-2 c =
    let a = c.args in
    let p = c.requires in record {
      says_text = stands a.verb a.s.now a.at a.len a.out.now p.0 p.1 c.peek.ensures.0 c.in-Some.is
          c.is_escape.ensures c.if-is_escape.false c.if-verb-2.true c.push-l-then-verb-2.result _ c.push-l-then-verb-2.ensures.lays;
      grows_text = record { at = omega arith; inside = omega (arith, p.0); text = omega (arith, c.push-l-then-verb-2.ensures.value) };
    }

pub back_blank-requires : goal.back_blank-requires
back_blank-requires c =
    let a = c.args in
    let p = c.requires in (
      behind a.verb a.s.now a.at a.len a.out.now p.0 p.1 c.peek.ensures.0 c.in-Some.is
          c.is_escape.ensures c.if-is_escape.false c.if-verb-2.false,
      sym c.is_whitespace.ensures ∙ c.if-is_whitespace.true,
      p.2.room,
    )

pub returns-then-is_whitespace : goal.returns-then-is_whitespace
returns-then-is_whitespace c =
    let a = c.args in record {
      says_text = says-as false a.verb a.s.now a.at a.len a.out.now c.back_blank.result _
          (sym c.if-verb-2.false) c.back_blank.ensures.says_text;
      grows_text = c.back_blank.ensures.grows_text;
    }

pub back_control-requires : goal.back_control-requires
back_control-requires c =
    let a = c.args in
    let p = c.requires in (
      behind a.verb a.s.now a.at a.len a.out.now p.0 p.1 c.peek.ensures.0 c.in-Some.is
          c.is_escape.ensures c.if-is_escape.false c.if-verb-2.false,
      sym c.is_whitespace.ensures ∙ c.if-is_whitespace.false,
      sym c.is_control.ensures ∙ c.if-is_control.true,
      p.2.room,
    )

pub returns-then-is_control : goal.returns-then-is_control
returns-then-is_control c =
    let a = c.args in record {
      says_text = says-as false a.verb a.s.now a.at a.len a.out.now c.back_control.result _
          (sym c.if-verb-2.false) c.back_control.ensures.says_text;
      grows_text = c.back_control.ensures.grows_text;
    }

pub command-requires : goal.command-requires
command-requires c =
    let a = c.args in
    let p = c.requires in (
      behind a.verb a.s.now a.at a.len a.out.now p.0 p.1 c.peek.ensures.0 c.in-Some.is
          c.is_escape.ensures c.if-is_escape.false c.if-verb-2.false,
      begins-so _ c.is_whitespace.ensures c.if-is_whitespace.false c.is_control.ensures c.if-is_control.false,
      p.2,
    )

pub returns-else-verb : goal.returns-else-verb
returns-else-verb c =
    let a = c.args in
    let p = c.requires in
    rw c.fault_at.ensures (record {
      says_text = ends-refused a.verb a.s.now a.at a.len a.out.now p.0 p.1 c.peek.ensures.0 c.in-None.is
          c.if-verb.false;
      grows_text = (omega (arith, p.0), omega (arith, p.0));
    })

pub returns-else-is_control : goal.returns-else-is_control
returns-else-is_control c = let a = c.args in record {
  says_text = says-as false a.verb a.s.now a.at a.len a.out.now c.command.result _ (sym c.if-verb-2.false) c.command.ensures.says_text;
  grows_text = c.command.ensures.grows_text;
}
