-- `text::block::apart_from_plain` meets its contract. Assumes nothing.
use Rattle.std.proofs.Common.{arith}
use Rattle.text.proofs.scanning.Blocks.{apart-plain}
use Rattle.text.proofs.block.apart_from_plain.Goals as goal

pub returns : goal.returns
returns c = λ h.
    apart-plain c.args.a c.args.b (omega arith) (omega arith) (omega arith) (omega arith) (omega arith) (omega arith) (omega arith)
    (omega arith)
