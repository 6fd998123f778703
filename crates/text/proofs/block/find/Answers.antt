-- `text::block::find` meets its contract. Assumes nothing.
use Rattle.std.proofs.Common.{◌≡◌, ◌-◌, length, arith, rules, tests}
use Rattle.std.proofs.lemmas.Iterator.{IsFirst-from_position, YieldsList-from_slice}
use Rattle.std.proofs.lemmas.Option.{MatchOption-at_some, MatchOption-at_none}
use Rattle.text.proofs.scanning.Blocks.{clear-join, found-behind}
use Rattle.text.proofs.block.find.Goals as goal

pub returns-then-s-near : goal.returns-then-s-near
returns-then-s-near c =
    let a = c.args in
    let near = clear-join c.past_long.ensures c.past-near.ensures in
    found-behind a.x a.s.now a.at c.past-near.result 0 near (omega arith) near.to (λ m h. absurd (omega arith)) (λ h. absurd (omega arith))

pub returns-in-Some : goal.returns-in-Some
returns-in-Some c =
    let a = c.args in
    let near = clear-join c.past_long.ensures c.past-near.ensures in
    let all = YieldsList-from_slice _ c.iter.ensures.rest in
    let first = IsFirst-from_position _ _ _ (λ b. b ≡ a.x) (λ b. b ≡ a.x → ⊥) c.position.ensures.ran all (λ x q k. search (rules, tests))
    (λ x q k. search (rules, tests)) in
    let at = MatchOption-at_some _ _ _ c.in-Some.is first in
    found-behind a.x a.s.now a.at c.past-near.result c.in-Some.k near (omega arith) (omega (arith, c.in-Some.ensures.bound))
    (λ m h. at.2 m 0 (omega arith) h) (λ h. at.1 0)

pub returns-in-None : goal.returns-in-None
returns-in-None c =
    let a = c.args in
    let near = clear-join c.past_long.ensures c.past-near.ensures in
    let all = YieldsList-from_slice _ c.iter.ensures.rest in
    let first = IsFirst-from_position _ _ _ (λ b. b ≡ a.x) (λ b. b ≡ a.x → ⊥) c.position.ensures.ran all (λ x q k. search (rules, tests))
    (λ x q k. search (rules, tests)) in
    let none = MatchOption-at_none _ _ c.in-None.is first in
    found-behind a.x a.s.now a.at c.past-near.result (length a.s.now - c.past-near.result) near (omega arith) (omega arith)
    (λ m h. none m 0 (omega arith) (omega (arith, c.iter.ensures.len))) (λ h. absurd (omega arith))
