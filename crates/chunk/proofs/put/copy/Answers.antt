-- `chunk::put::copy` meets its contract. Assumes nothing.
use Rattle.std.proofs.Common.{◌+◌, ◌-◌, ◌≤◌, ◌<◌, arith, length}
use Rattle.chunk.proofs.texts.Copies as laws
use Rattle.chunk.proofs.put.copy.Goals as goal

pub returns-then-out-at : goal.returns-then-out-at
returns-then-out-at c =
    let a = c.args in
    record { puts = laws.copy-past a.s.now a.from a.to c.requires.0 c.requires.1 c.if-out-at.true; from_value = omega arith }

pub returns : goal.returns
returns c =
    let a = c.args in
    let m = c.min.result in
    let few : m ≤ a.to - a.from = omega (arith, c.min.ensures) in
    let full : m < a.to - a.from → length a.out.now ≤ a.at + m = λ h. omega (arith, c.min.ensures, c.if-out-at.false) in
    record { puts = laws.copied a.s.now a.from a.to c.requires.0 c.requires.1 m few full c.copy.ensures; from_value = omega arith }
