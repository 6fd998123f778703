-- `chunk::sentence::past_quiet` meets its contract. Assumes nothing.
use Rattle.std.proofs.Common.{arith, sym, ◌∙◌, length-take-le}
use Rattle.text.proofs.Seeing.{seeing}
use Rattle.chunk.proofs.texts.QuietRuns as laws
use Rattle.chunk.proofs.sentence.past_quiet.Goals as goal

pub returns-else-b : goal.returns-else-b
returns-else-b c =
    let a = c.args in
    let p = c.requires in
    (λ h. laws.quiet-ascii a.t.now a.i (omega (arith, p.0, p.1)) c.if-b-lt128.true c.if-b.false, omega arith, omega (arith, p.0))

pub slice_bounds-seen-end : goal.slice_bounds-seen-end
slice_bounds-seen-end c = sym (length-take-le c.args.to c.args.t.now c.requires.1)

pub returns-then-is_settled : goal.returns-then-is_settled
returns-then-is_settled c =
    let a = c.args in
    let p = c.requires in
    let it = sym c.seen.ensures.0 ∙ c.in-Some.is in
    let ahead = seeing.see-ahead _ a.i _ _ it in (
      λ h. laws.quiet-wide a.t.now a.i a.to p.0 p.1 it (sym c.is_settled.ensures ∙ c.if-is_settled.true),
      omega (arith, ahead.0),
      omega (arith, ahead.1, length-take-le a.to a.t.now p.1),
    )
