-- `chunk::biblatex::escaped` meets its contract. Assumes nothing.
use Rattle.std.proofs.Common.{arith}
use Rattle.chunk.specs.Format.{escaped}
use Rattle.chunk.proofs.texts.Escapes as laws
use Rattle.chunk.proofs.texts.Puts.{puts_none}
use Rattle.chunk.proofs.biblatex.escaped.Goals as goal

pub loop-b-init : goal.loop-b-init
unfolding escaped
loop-b-init c = (puts_none c.args.out.now c.args.at, omega arith)

pub loop-b-preserved : goal.loop-b-preserved
loop-b-preserved c =
    let b = c.loop-b in
    (laws.escaped-on c.args.verb _ c.loop-b-test.true b.invariant.0 c.escape-j.ensures.puts, omega (arith, c.escape-j.ensures.upper_bound, b.invariant.1))
