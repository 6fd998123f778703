-- `command::settle::lines` meets its contract. Assumes nothing.
use Rattle.std.proofs.Common.{ℕ, arith, ◌≡◌, subst, true}
use Rattle.text.specs.Scan.{part}
use Rattle.chunk.specs.Inner.{stops}
use Rattle.command.proofs.ways.SettleWays as laws
use Rattle.command.proofs.settle.lines.Goals as goal

pub loop-i-init : goal.loop-i-init
loop-i-init c =
    let a = c.args in
    let p = c.requires in
    laws.lining a.t.now a.from a.to a.white p.0

pub line_end-n-requires : goal.line_end-n-requires
line_end-n-requires c =
    let a = c.args in
    let p = c.requires in
    let b = c.loop-i in
    let g = b.invariant in
    let l = c.loop-i-test.true in
    (g.inside, omega (arith, g.long, p.1))

pub ends_white-w-requires : goal.ends_white-w-requires
ends_white-w-requires c =
    let a = c.args in
    let g = c.loop-i.invariant in
    (c.line_end-n.ensures.2, omega (arith, c.line_end-n.ensures.3, g.long, c.requires.1))

pub shift-j-requires : goal.shift-j-requires
shift-j-requires c =
    let a = c.args in
    let g = c.loop-i.invariant in
    (g.behind, c.line_end-n.ensures.2, omega (arith, c.line_end-n.ensures.3, g.long, c.requires.1))

pub loop-i-preserved-then-i-n : goal.loop-i-preserved-then-i-n
loop-i-preserved-then-i-n c =
    let a = c.args in
    let g = c.loop-i.invariant in
    laws.runs a.t.now a.from a.to a.white c.loop-i.t c.loop-i.w c.loop-i.i c.loop-i.j g c.requires.1 c.line_end-n.result
    c.shift-j.result _ c.ends_white-w.result
    c.if-i-n.true c.line_end-n.ensures.3 c.line_end-n.ensures.0 c.line_end-n.ensures.1 c.ends_white-w.ensures c.shift-j.ensures.lays
    c.shift-j.ensures.t_unchanged c.shift-j.auto.t

pub overflow_add-i : goal.overflow_add-i
overflow_add-i c =
    let a = c.args in
    let g = c.loop-i.invariant in
    omega (arith, c.loop-i-test.true, c.requires.1, g.behind, g.long, c.ranges)

pub loop-i-smaller-then-w : goal.loop-i-smaller-then-w
loop-i-smaller-then-w c =
    let a = c.args in
    let g = c.loop-i.invariant in
    omega (arith, c.loop-i-test.true, c.requires.1, g.behind, g.long, c.ranges)

pub loop-i-preserved-then-w : goal.loop-i-preserved-then-w
loop-i-preserved-then-w c =
    let a = c.args in
    let g = c.loop-i.invariant in
    let i : c.line_end-n.result ≡ c.loop-i.i = omega (arith, c.line_end-n.ensures.2, c.if-i-n.false) in
    let s = subst (λ (k : ℕ). stops (part c.loop-i.t k a.to) ≡ true) i c.line_end-n.ensures.1 in
    laws.passes a.t.now a.from a.to a.white c.loop-i.t c.loop-i.w c.loop-i.i c.loop-i.j g c.requires.1 c.loop-i-test.true s
    c.if-w.true

pub bounds-t-j : goal.bounds-t-j
bounds-t-j c =
    let a = c.args in
    let g = c.loop-i.invariant in
    omega (arith, c.loop-i-test.true, c.requires.1, g.behind, g.long, c.ranges)

pub overflow_add-j : goal.overflow_add-j
overflow_add-j c =
    let a = c.args in
    let g = c.loop-i.invariant in
    omega (arith, c.loop-i-test.true, c.requires.1, g.behind, g.long, c.ranges)

pub overflow_add-i-else-w : goal.overflow_add-i-else-w
overflow_add-i-else-w c =
    let a = c.args in
    let g = c.loop-i.invariant in
    omega (arith, c.loop-i-test.true, c.requires.1, g.behind, g.long, c.ranges)

pub loop-i-smaller : goal.loop-i-smaller
loop-i-smaller c =
    let a = c.args in
    let g = c.loop-i.invariant in
    omega (arith, c.loop-i-test.true, c.requires.1, g.behind, g.long, c.ranges)

pub loop-i-preserved : goal.loop-i-preserved
loop-i-preserved c =
    let a = c.args in
    let g = c.loop-i.invariant in
    let i : c.line_end-n.result ≡ c.loop-i.i = omega (arith, c.line_end-n.ensures.2, c.if-i-n.false) in
    let s = subst (λ (k : ℕ). stops (part c.loop-i.t k a.to) ≡ true) i c.line_end-n.ensures.1 in
    laws.blanks a.t.now a.from a.to a.white c.loop-i.t c.loop-i.w c.loop-i.i c.loop-i.j g c.requires.1 c.loop-i-test.true s
    c.if-w.false

pub returns : goal.returns
returns c =
    let a = c.args in
    let p = c.requires in
    let b = c.loop-i in
    let g = b.invariant in
    let h = c.loop-i-test.false in record {
      lays = laws.finished a.t.now a.from a.to a.white b.t b.w b.i b.j g p.1 h;
      white_value = (laws.finished-white a.t.now a.from a.to a.white b.t b.w b.i b.j g p.1 h, omega (arith, g.behind, g.inside));
    }
