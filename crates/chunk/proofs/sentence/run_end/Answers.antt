-- `chunk::sentence::run_end` meets its contract. Assumes nothing.
use Rattle.std.proofs.Common.{arith, sym, length-take-le}
use Rattle.chunk.proofs.texts.QuietRuns as laws
use Rattle.chunk.proofs.sentence.run_end.Goals as goal

pub slice_bounds-past_narrow-end : goal.slice_bounds-past_narrow-end
slice_bounds-past_narrow-end c = sym (length-take-le c.args.to c.args.t.now c.requires.1)

pub loop-i-init : goal.loop-i-init
loop-i-init c =
    let a = c.args in
    laws.quiet-clear a.t.now a.from a.to c.requires.0 c.requires.1 c.past_narrow-i.ensures

pub past_quiet-next-requires : goal.past_quiet-next-requires
past_quiet-next-requires c = (c.loop-i-test.true, c.requires.1)

pub loop-i-preserved : goal.loop-i-preserved
loop-i-preserved c =
    let a = c.args in
    let b = c.loop-i in
    let y = c.past_quiet-next.ensures in
    (laws.quiet-more a.t.now b.invariant.1 y.1 (omega (arith, y.2, c.requires.1)) b.invariant.0 (y.0 c.if-next-i.false), omega (arith, b.invariant.1, y.1), y.2)
