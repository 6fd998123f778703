-- `text::block::past_short` meets its contract. Assumes nothing.
use Rattle.std.proofs.Common.{ℕ, ◌≡◌, ◌+◌, ◌-◌, subst, length, arith}
use Rattle.text.specs.Block.{Clear}
use Rattle.text.proofs.scanning.Blocks.{clear_none, clear-join, clear-meet}
use Rattle.text.proofs.block.past_short.Goals as goal

pub returns-then-not-has : goal.returns-then-not-has
returns-then-not-has c = clear_none

pub loop-i-init : goal.loop-i-init
loop-i-init c = (c.has.ensures c.if-not-has.false, clear_none)

pub loop-i-preserved : goal.loop-i-preserved
loop-i-preserved c = (c.loop-i.invariant.0, clear-join c.loop-i.invariant.1 (c.is_clear.ensures c.if-not-is_clear.false))

pub returns-then-is_clear : goal.returns-then-is_clear
returns-then-is_clear c =
    let a = c.args in
    let n = length a.s.now in
    let end : n - 16 + 16 ≡ n = omega arith in
    let rest = subst (λ (r : ℕ). Clear a.x a.s.now (n - 16) r) end (c.is_clear-2.ensures c.if-is_clear.true) in
    clear-meet c.loop-i.invariant.1 rest (omega arith) (omega arith)
