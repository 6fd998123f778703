-- `whole::file::answer_row` meets its contract. Assumes nothing.
use Rattle.std.specs.Prelude.{Result}
use Rattle.row.specs.declared.fault.Fault.{Fault}
use Rattle.resolve.specs.declared.answer.Chunks.{Chunks}
use Prim.Native.Nat.{◌*◌}
use native.Mathlib.Omega.{arith}
use mathlib.Core.Path.{sym, ap, subst, ◌∙◌}
use lib.Seq.{sets}
use Rattle.resolve.specs.Progress.{BoundedAnswer}
use Rattle.whole.specs.Filing.{AddsAnswer, FitsBehind}
use Rattle.whole.proofs.ways.ValueWays.{six-refused, six-chunks}
use Rattle.whole.proofs.file.answer_row.Goals as goal

pub overflow_add-t : goal.overflow_add-t
overflow_add-t c =
    let behind = subst (FitsBehind c.args.t) c.in-Ok.is c.requires.2 in
    omega (arith, behind.0)

pub overflow_add-t-in-Ok : goal.overflow_add-t-in-Ok
overflow_add-t-in-Ok c =
    let behind = subst (FitsBehind c.args.t) c.in-Ok.is c.requires.2 in
    omega (arith, behind.1)

pub add-requires-in-Ok : goal.add-requires-in-Ok
add-requires-in-Ok c =
    let bound = subst BoundedAnswer c.in-Ok.is c.requires.1 in
    (c.requires.0, bound.0, bound.1, c.requires.4)

pub returns-in-Err : goal.returns-in-Err
returns-in-Err c =
    let t = c.args.t in record {
      answers_after = c.put_answer.ensures
          ∙ ap (sets c.args.answers.now (t.values * 6))
          (six-refused t c.args.a c.in-Err.f c.in-Err.is _ c.number.ensures);
      adds_answer = (subst (λ (u : Result Chunks Fault). AddsAnswer t u c.add.result) (sym c.in-Err.is) c.add.ensures.0, c.add.ensures.1);
    }

pub returns-in-Ok : goal.returns-in-Ok
returns-in-Ok c =
    let t = c.args.t in record {
      answers_after = c.put_answer-in-Ok.ensures
          ∙ ap (sets c.args.answers.now (t.values * 6))
          (six-chunks t c.args.a c.in-Ok.chunks.rows c.in-Ok.chunks.bytes c.in-Ok.chunks.names c.in-Ok.is);
      adds_answer = (subst (λ (u : Result Chunks Fault). AddsAnswer t u c.add-in-Ok.result) (sym c.in-Ok.is) c.add-in-Ok.ensures.0, c.add-in-Ok.ensures.1);
    }
