-- `command::names::names` meets its contract: the source's constant is the list of specs/, byte by byte.
-- Assumes nothing.
use Rattle.std.proofs.Common.{refl}
use Rattle.text.specs.Utf8.{octets}
use Rattle.text.specs.Strings.{utf8}
use Rattle.command.specs.Commands.{commands}
use Rattle.command.specs.Names.{names, flat, rows_of, long}
use Rattle.command.proofs.names.names.Goals as goal

pub returns : goal.returns
unfolding names flat rows_of long commands utf8 octets
returns c = refl
