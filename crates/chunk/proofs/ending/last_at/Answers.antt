-- `chunk::ending::last_at` meets its contract. Assumes nothing.
use Rattle.std.proofs.Common.{ℕ, ◌+◌, ◌-◌, ◌≤◌, arith, ◌≡◌, sym, ap, ◌∙◌, length}
use Rattle.chunk.proofs.texts.LastCharacter as laws
use Rattle.chunk.proofs.ending.last_at.Goals as goal

pub returns-then-is_boundary : goal.returns-then-is_boundary
returns-then-is_boundary c =
    let a = c.args in
    let b = c.loop-i in
    let l = c.loop-i-test.true in
    let h : a.from ≤ b.i - 1 = omega (arith, l) in
    let e : b.i ≡ b.i - 1 + 1 = omega (arith, l) in
    let n : b.i ≤ length a.t.now = omega (arith, b.auto.i, c.requires.1) in
    laws.last_found a.t.now a.from b.i (b.i - 1) h e n (sym c.is_boundary.ensures ∙ c.if-is_boundary.true)
    ∙ ap (λ (k : ℕ). a.from + k) b.invariant.1

pub loop-i-preserved : goal.loop-i-preserved
loop-i-preserved c =
    let a = c.args in
    let b = c.loop-i in
    let l = c.loop-i-test.true in
    let h : a.from ≤ b.i - 1 = omega (arith, l) in
    let e : b.i ≡ b.i - 1 + 1 = omega (arith, l) in
    let n : b.i ≤ length a.t.now = omega (arith, b.auto.i, c.requires.1) in
    let q = laws.last-pass a.t.now a.from b.i (b.i - 1) h e n (sym c.is_boundary.ensures ∙ c.if-is_boundary.false) in
    (h, sym q ∙ b.invariant.1)

pub returns : goal.returns
returns c =
    let a = c.args in
    let b = c.loop-i in
    let i : b.i ≡ a.from = omega (arith, c.loop-i-test.false, b.invariant.0) in
    sym i ∙ laws.last_none a.t.now a.from b.i _ i b.invariant.1
