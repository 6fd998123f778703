-- `command::stack::push` meets its contract. Assumes nothing.
use Rattle.std.proofs.Common.{refl}
use Rattle.command.proofs.stacks.LaysLaws as laws
use Rattle.command.proofs.stack.push.Goals as goal

pub returns : goal.returns
returns c = record { lays = laws.pushed c.args.out.now c.args.at c.args.b c.requires; value = refl }
