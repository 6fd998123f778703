-- `chunk::sentence::put_lowered` meets its contract. Assumes nothing.
use Rattle.std.proofs.Common.{◌+◌, ◌-◌, ◌≤◌, ◌<◌, arith, length}
use Rattle.chunk.proofs.texts.Copies as laws
use Rattle.chunk.proofs.sentence.put_lowered.Goals as goal

pub returns-then-out-at : goal.returns-then-out-at
returns-then-out-at c =
    let a = c.args in
    record { puts = laws.lower-past a.t.now a.from a.to c.requires.0 c.requires.1 c.if-out-at.true; from_value = omega arith }

pub loop-k-preserved : goal.loop-k-preserved
loop-k-preserved c =
    let a = c.args in
    let b = c.loop-k in
    let inside : a.from + b.k < length a.t.now = omega (arith, c.loop-k-test.true, c.min-k-end.ensures, c.requires.0, c.requires.1) in
    laws.lower-more a.t.now a.out.now a.from a.at b.k inside b.invariant c.cased_byte.ensures

pub returns : goal.returns
returns c =
    let a = c.args in
    let b = c.loop-k in
    let few : b.k ≤ a.to - a.from = omega (arith, b.auto.k-end, c.min-k-end.ensures) in
    let full : b.k < a.to - a.from → length a.out.now ≤ a.at + b.k = λ h. omega (arith, c.loop-k-test.false, c.min-k-end.ensures, c.if-out-at.false) in
    record { puts = laws.lowered a.t.now a.from a.to c.requires.0 c.requires.1 b.k few full b.invariant; from_value = omega arith }
