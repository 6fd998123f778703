-- `literal::content::finish` meets its contract. Assumes nothing.
use Rattle.std.proofs.Common.{ℕ, ◌+◌, ◌*◌, ◌≤◌, arith, sym, subst, ◌∙◌, length}
use Rattle.text.specs.Scan.{part}
use Rattle.command.specs.Execute.{Sane}
use Rattle.command.proofs.ways.ExecuteWays.{meaning-sane}
use Rattle.command.proofs.stacks.LaysLaws.{lays-below}
use Rattle.literal.proofs.ways.ArgumentWays.{part_same, finished, finish-room, finish-grows}
use Rattle.literal.proofs.content.finish.Goals as goal

pub execute_command-l-requires : goal.execute_command-l-requires
execute_command-l-requires c =
    let a = c.args in
    let closes = c.requires.closes.0 in
    let room = finish-room (length a.s.now) a.st.at a.end a.to a.st.len a.lead a.t.from a.t.len
    c.settle-w.result.at
    (length a.out.now) closes.name closes.from closes.inside closes.first closes.short closes.chunk closes.last
    closes.text closes.room c.settle-w.ensures.white_value.1 (omega (arith, c.settle-w.ensures.lays.end)) in
    let small : a.t.len ≤ length a.out.now = omega (
      arith,
      closes.text,
      closes.short,
      closes.room,
      closes.inside,
      closes.from,
      closes.name,
    ) in
    let same = c.settle-w.auto.t in
    let below = lays-below a.t.from _ a.out.now c.settle-w.result.at _ c.settle-w.ensures.lays
    (omega (arith, closes.last, small)) in record {
      marks_value = (
        c.requires.marks_value.0,
        subst Sane (sym c.requires.marks_value.1) (meaning-sane (part a.s.now (a.st.at + 1) a.end)),
        omega (arith, closes.name),
        omega
            (arith, closes.from, closes.inside),
        omega (arith, room.0, same),
      );
      at_le_from = (
        closes.first,
        omega (arith, closes.chunk, c.settle-w.ensures.lays.end),
        omega (arith, room.1, same),
        omega (arith, room.2, same),
        omega (arith, room.3, same),
        part_same a.out.now _ a.st.len a.lead a.t.from below closes.chunk (omega (arith, closes.last, small))
            (omega (arith, closes.last, small, same)) ∙ c.requires.closes.1,
      );
    }

pub returns : goal.returns
returns c =
    let a = c.args in
    let closes = c.requires.closes.0 in
    let room = finish-room (length a.s.now) a.st.at a.end a.to a.st.len a.lead a.t.from a.t.len
    c.settle-w.result.at
    (length a.out.now) closes.name closes.from closes.inside closes.first closes.short closes.chunk closes.last
    closes.text closes.room c.settle-w.ensures.white_value.1 (omega (arith, c.settle-w.ensures.lays.end)) in
    let small : a.t.len ≤ length a.out.now = omega (
      arith,
      closes.text,
      closes.short,
      closes.room,
      closes.inside,
      closes.from,
      closes.name,
    ) in
    let same = c.settle-w.auto.t in record {
      argument_finished = finished (part a.s.now (a.st.at + 1) a.end) a.m (a.end + 1) a.to a.st a.t a.out.now a.lead
          c.settle-w.result.at _ c.execute_command-l.result _ c.further.result c.requires.marks_value.1
          closes.last small closes.first closes.chunk (omega (arith, closes.chunk, closes.last, small)) c.requires.closes.1
          c.settle-w.ensures.lays (omega (arith, room.1, same)) c.execute_command-l.ensures.lays c.further.ensures;
      at_value = (
        c.further.ensures.at,
        subst (λ (n : ℕ). n + 2 * a.st.at ≤ a.st.len + 2 * (a.to + 1)) (sym c.further.ensures.len)
            (finish-grows a.st.at a.end a.to a.st.len a.lead a.t.len c.settle-w.result.at c.execute_command-l.result
            closes.name closes.from
            closes.first closes.short (omega (arith, closes.chunk, c.settle-w.ensures.lays.end)) c.settle-w.ensures.white_value.1
            closes.text c.execute_command-l.ensures.a_bound),
      );
    }
