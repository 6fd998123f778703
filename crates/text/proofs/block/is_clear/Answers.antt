-- `text::block::is_clear` meets its contract. Assumes nothing.
use Rattle.std.proofs.Common.{rules, ℕ, ◌<◌, get_or, arith, ltb-true}
use Rattle.std.proofs.lemmas.Fn.{fold_over, slice_gives, fronts}
use Rattle.text.proofs.scanning.Blocks.{Away, away_more, away-done}
use Rattle.text.proofs.block.is_clear.Goals as goal

pub returns : goal.returns
returns c = λ e.
    let a = c.args in
    let i = c.iter.result in
    let fits : (k : ℕ) → get_or a.s.now k 0 < 256 = λ k. let b = c.type_inv.s k in omega arith in
    let away : Away a.x i.rest.now c.fold-least.result =
    fold_over fronts (λ y. y.now) _ (Away a.x) _
    (λ ys m b r f' h k. (away_more a.x ys m b.now (λ z. omega arith) (λ z. search rules) h, search rules)) i i.rest.now 255 c.fold-least.result
    (slice_gives i) (λ z j l. absurd (omega arith)) c.fold-least.ensures.ran
    in
    away-done a.x a.s.now i.rest.now a.at a.n c.fold-least.result c.iter.ensures.rest c.requires fits away (ltb-true _ _ e)
