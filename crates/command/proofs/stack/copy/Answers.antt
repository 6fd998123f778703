-- `command::stack::copy` meets its contract. Assumes nothing.
use Rattle.std.proofs.Common.{arith}
use Rattle.command.proofs.stacks.LaysLaws as laws
use Rattle.command.proofs.stack.copy.Goals as goal

pub returns : goal.returns
returns c =
    let a = c.args in
    let p = c.requires in
    record { lays = laws.copied a.s.now a.out.now a.from a.to a.at p.0 p.1 (omega arith) c.copy.ensures; from_value = omega arith }
