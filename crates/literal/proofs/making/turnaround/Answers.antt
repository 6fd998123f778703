-- `literal::making::turnaround` meets its contract. Assumes nothing.
use Rattle.std.proofs.Common.{arith, refl}
use Rattle.literal.proofs.ways.MakingWays.{argument-holds, literal-done}
use Rattle.literal.proofs.making.turnaround.Goals as goal

pub returns-then-place : goal.returns-then-place
returns-then-place c =
    let a = c.args in
    let p = c.requires in
    record {
      goes = λ t₀ ps b₀ σ h.
          argument-holds a.place t₀ ps b₀ σ a.st a.out.now a.numbers.now h p.0.from p.0.to a.end a.braces a.start
          c.if-place.true
          c.settle-w.result.at c.settle-w.result.white _ c.settle-w.ensures.lays c.settle-w.ensures.white_value.0;
      at = refl;
      braces = refl;
      start = refl;
      from = refl;
      len = c.settle-w.ensures.white_value.1;
      rows = omega arith;
    }

pub returns : goal.returns
returns c =
    let a = c.args in
    let p = c.requires in
    literal-done a.place a.st a.out.now a.numbers.now a.end a.braces a.start p.0.from p.0.to c.if-place.false
    c.default_chunk-kind.result c.narrow-from.result c.narrow-to.result c.narrow-first.result c.narrow-last.result c.push-more.result _
    c.default_chunk-kind.ensures c.narrow-from.ensures c.narrow-to.ensures (c.narrow-first.ensures p.0.start) (c.narrow-last.ensures p.1)
    c.push-more.ensures.pushes c.push-more.ensures.n_le_n.1
