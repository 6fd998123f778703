-- `chunk::format::lines` meets its contract. Assumes nothing.
use Rattle.std.proofs.Common.{ℕ, arith, ◌≡◌, subst, true}
use Rattle.text.specs.Scan.{part}
use Rattle.chunk.specs.Inner.{stops}
use Rattle.chunk.proofs.texts.LineEnds as laws
use Rattle.chunk.proofs.format.lines.Goals as goal

pub loop-i-init : goal.loop-i-init
loop-i-init c =
    let a = c.args in
    laws.lining a.t.now a.from a.to a.white a.out.now a.at c.requires.0

pub ends_white-w-requires : goal.ends_white-w-requires
ends_white-w-requires c = (c.line_end-n.ensures.2, omega (arith, c.line_end-n.ensures.3, c.requires.1))

pub copy-j-requires : goal.copy-j-requires
copy-j-requires c =
    let p = c.requires in
    let g = c.loop-i.invariant in
    let n = c.line_end-n.ensures in
    (n.2, omega (arith, n.3, p.1), omega (arith, n.2, n.3, g.room, g.first, p.2))

pub loop-i-preserved-then-i-n : goal.loop-i-preserved-then-i-n
loop-i-preserved-then-i-n c =
    let b = c.loop-i in
    let run = laws.runs b.invariant c.requires.1 c.if-i-n.true c.line_end-n.ensures.3 in
    run c.line_end-n.ensures.0 c.line_end-n.ensures.1 c.ends_white-w.ensures c.copy-j.ensures.puts c.copy-j.auto.out

pub loop-i-preserved-then-w : goal.loop-i-preserved-then-w
loop-i-preserved-then-w c =
    let a = c.args in
    let b = c.loop-i in
    let e : c.line_end-n.result ≡ b.i = omega (arith, c.line_end-n.ensures.2, c.if-i-n.false) in
    let stop = subst (λ (k : ℕ). stops (part a.t.now k a.to) ≡ true) e c.line_end-n.ensures.1 in
    laws.passes b.invariant c.requires.1 c.loop-i-test.true stop c.if-w.true

pub loop-i-preserved : goal.loop-i-preserved
loop-i-preserved c =
    let a = c.args in
    let b = c.loop-i in
    let e : c.line_end-n.result ≡ b.i = omega (arith, c.line_end-n.ensures.2, c.if-i-n.false) in
    let stop = subst (λ (k : ℕ). stops (part a.t.now k a.to) ≡ true) e c.line_end-n.ensures.1 in
    laws.blanks b.invariant c.requires.1 c.loop-i-test.true stop c.if-w.false c.put-j.ensures.puts
    c.put-j.auto.out

pub returns : goal.returns
returns c =
    let g = c.loop-i.invariant in
    let done = laws.finished g c.requires.1 c.loop-i-test.false in
    record { puts = done.0; white_value = (done.1, omega (arith, g.room, g.inside)) }
