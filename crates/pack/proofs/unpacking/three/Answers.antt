-- `pack::unpacking::three` meets its contract: three bytes, most significant first. Assumes nothing.
use Rattle.std.proofs.Common.{arith}
use Rattle.pack.specs.Digits.{of_digits}
use Rattle.pack.proofs.unpacking.three.Goals as goal

pub returns : goal.returns
unfolding of_digits
returns c = rw c.from_be_bytes.ensures (omega arith, omega arith)
