-- `literal::making::default_chunk` meets its contract. Assumes nothing.
use Rattle.literal.proofs.ways.MakingWays.{verbatim-some}
use Rattle.literal.proofs.making.default_chunk.Goals as goal

pub returns : goal.returns
returns c = verbatim-some c.args.braces c.if-braces-eq0.false
