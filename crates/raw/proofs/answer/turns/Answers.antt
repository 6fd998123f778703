-- `raw::answer::turns` meets its contract: each turn of the loop is one of `many`. Assumes nothing.
use Rattle.std.proofs.Common.{◌≤◌, refl, rules, length, arith}
use Rattle.raw.proofs.contracts.SaysLaws.{says-exit}
use Rattle.raw.proofs.contracts.LoopSays.{leads, loop-on, loop-done, loop-off}
use Rattle.raw.proofs.answer.turns.Goals as goal

pub loop-q-init : goal.loop-q-init
loop-q-init g c =
    let a = c.args in
    record { from = search rules; to = search rules; few = search rules; leads = leads (λ x. g.L.Loop.reader a.of.now) a.piece.text.now a.piece.base a.at a.n a.rows.now }

pub loop-q-preserved : goal.loop-q-preserved
loop-q-preserved g c =
    let l = c.loop-q in
    let told = rw c.in-Continue.is at c.in_ok-q.ensures in
    let place = told.within in
    let to : c.in-Continue.q ≤ length c.args.piece.text.now = omega arith in record {
      from = omega arith;
      to = to;
      few = omega arith;
      leads = loop-on (λ x. g.L.Loop.reader c.args.of.now) c.args.piece.text.now l.p (λ a s p. refl) l.invariant.leads (omega arith) to told.says;
    }

pub returns-in_err-q-clause-says : goal.returns-in_err-q-clause-says
returns-in_err-q-clause-says g c =
    let l = c.loop-q in
    says-exit (loop-off (λ x. g.L.Loop.reader c.args.of.now) c.args.piece.text.now l.p l.invariant.leads c.in_err-q.ensures.says) c.from_residual.result
    c.from_residual.ensures.1

pub returns-in-Break-clause-says : goal.returns-in-Break-clause-says
returns-in-Break-clause-says g c =
    let l = c.loop-q in
    loop-done (λ x. g.L.Loop.reader c.args.of.now) c.args.piece.text.now l.p l.invariant.leads (rw c.in-Break.is at c.in_ok-q.ensures.says)
