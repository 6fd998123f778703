-- `command::execute::is_single_char_func` meets its contract. Assumes nothing.
use Rattle.command.proofs.ways.SingleCharTests.{singles}
use Rattle.command.specs.Commands.{is_single_char_func}
use Rattle.command.proofs.execute.is_single_char_func.Goals as goal

pub returns : goal.returns
unfolding is_single_char_func
returns c = rw singles
