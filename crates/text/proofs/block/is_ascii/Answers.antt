-- `text::block::is_ascii` meets its contract. Assumes nothing.
use Rattle.std.proofs.Common.{rules, arith, ltb-true}
use Rattle.std.proofs.lemmas.Fn.{fold_over, slice_gives, fronts}
use Rattle.text.proofs.scanning.Blocks.{Least, least_more, least-done}
use Rattle.text.proofs.block.is_ascii.Goals as goal

pub returns : goal.returns
returns c = λ e.
    let a = c.args in
    let i = c.iter.result in
    let least : Least i.rest.now c.fold-greatest.result =
    fold_over fronts (λ y. y.now) _ Least _ (λ ys m b r f' h k. (least_more ys m b.now (omega arith) (omega arith) h, search rules)) i i.rest.now 0
    c.fold-greatest.result (slice_gives i) (λ j l. absurd (omega arith)) c.fold-greatest.ensures.ran
    in
    least-done a.s.now i.rest.now a.at 64 c.fold-greatest.result c.iter.ensures.rest c.requires least (ltb-true _ _ e)
