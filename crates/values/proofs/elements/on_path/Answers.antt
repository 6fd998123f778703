-- `values::elements::on_path` meets its contract. Assumes nothing.
use Rattle.std.proofs.Common.{◌∙◌}
use Rattle.values.proofs.naming.OpenWays.{path-any}
use Rattle.values.proofs.elements.on_path.Goals as goal

pub returns : goal.returns
returns c = c.contains.ensures.value ∙ path-any c.args.i _
